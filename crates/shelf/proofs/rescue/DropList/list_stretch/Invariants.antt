use Rattle.std.proofs.Common.{◌≡◌}
use Rattle.shelf.specs.Rescue.{told_by, listing, good_in, Few}
use Rattle.shelf.proofs.rescue.DropList.list_stretch.Given as goal

abbrev pub invariant-loop-i : goal.invariant-loop-i
invariant-loop-i l = record {
  same : l.self.list.ghost_name ≡ l.initial.self.list.ghost_name;
  few : Few l.i l.self.listed;
  so_far : listing (told_by l.initial.self) (good_in l.f l.first l.last l.kept.start l.kept.stop) ≡ listing (told_by l.self) (good_in l.f l.i l.last l.kept.start l.kept.stop);
}
