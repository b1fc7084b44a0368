use Rattle.std.proofs.Common.{◌≡◌, ◌+◌, ◌-◌, ◌*◌, ◌<◌, ◌≤◌}
use Rattle.shelf.specs.Shelf as shelf
use Rattle.shelf.specs.Shelf.{scan_by}
use Rattle.shelf.proofs.judge.scan.Given as goal

abbrev pub invariant-loop-i : goal.invariant-loop-i
invariant-loop-i l = (l.reached.count ≤ l.reached.place) × (l.i-counter < l.m → 498 * l.i-counter ≤ l.reached.place + 1) × (shelf.scan l.f ≡ scan_by (l.m - l.i-counter) l.f l.i-counter l.reached.place l.reached.count)
