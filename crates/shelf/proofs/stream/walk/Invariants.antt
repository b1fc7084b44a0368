use Rattle.std.proofs.Common.{◌≡◌, ◌-◌, ◌≤◌}
use Rattle.shelf.specs.Stream as meaning
use Rattle.shelf.proofs.stream.walk.Given as goal

abbrev pub invariant-loop-place : goal.invariant-loop-place
invariant-loop-place g l = (meaning.walk (g.S.Stream.bytes l.s) l.end l.fn.from.place l.fn.from.count ≡ meaning.walk (g.S.Stream.bytes l.s) l.end l.place l.count) × (l.count ≤ l.place)

abbrev pub decreases-loop-place : goal.decreases-loop-place
decreases-loop-place g l = l.last - l.place
