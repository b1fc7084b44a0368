-- What is passed are whole characters.
use Prim.Native.Nat.{◌-◌}
use Rattle.utf8.specs.Slanted.{Went}
use Rattle.utf8.proofs.slanted.Slanted.characters.Given as goal

abbrev pub invariant-loop-from : goal.invariant-loop-from
invariant-loop-from l = Went l.self.s.now l.self.k l.from l.self.to l.i

abbrev pub decreases-loop-from : goal.decreases-loop-from
decreases-loop-from l = l.self.to - l.i
