use Rattle.std.proofs.Common.{◌≡◌, ◌-◌, ◌*◌, ◌≤◌}
use Rattle.shelf.specs.Judge.{byte_of, blocks}
use Rattle.shelf.specs.Salvage.{kept_by}
use Rattle.shelf.proofs.rescue.kept_by.Given as goal

abbrev pub invariant-loop-next : goal.invariant-loop-next
invariant-loop-next l = (kept_by l.end (byte_of l.f) l.end l.start 0 ≡ kept_by l.end (byte_of l.f) l.end l.next l.count) × (l.count ≤ l.next) × (l.next ≤ 498 * blocks l.f)

abbrev pub decreases-loop-next : goal.decreases-loop-next
decreases-loop-next l = l.end - l.next
