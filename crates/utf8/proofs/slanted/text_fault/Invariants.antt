-- The state is the one after the octets passed, and `found` tells whether one of them is a control character.
use Prim.Native.Nat.{◌-◌, ◌≤◌}
use Rattle.utf8.proofs.SlantedLaws.{Judged}
use Rattle.utf8.proofs.slanted.text_fault.Given as goal

abbrev pub invariant-loop-i : goal.invariant-loop-i
invariant-loop-i l = (l.from ≤ l.i) × (l.i ≤ l.to) × Judged l.s l.k l.from l.i l.state l.found

abbrev pub decreases-loop-i : goal.decreases-loop-i
decreases-loop-i l = l.to - l.i
