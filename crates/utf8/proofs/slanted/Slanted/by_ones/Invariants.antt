-- The octets passed are printable.
use Rattle.utf8.specs.Slanted.{Passed}
use Rattle.utf8.proofs.slanted.Slanted.by_ones.Given as goal

abbrev pub invariant-loop-i : goal.invariant-loop-i
invariant-loop-i l = Passed l.self.s.now l.self.k l.from l.self.to l.i
