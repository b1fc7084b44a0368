-- The octets passed are printable: the 16 from `at` on are, and those before `at` were passed.
use Prim.Native.Nat.{◌-◌, ◌≤◌}
use mathlib.Core.Path.{◌≡◌}
use Rattle.utf8.specs.Slanted.{Passed}
use Rattle.utf8.proofs.slanted.Slanted.by_sixteens.Given as goal

abbrev pub invariant-loop-i : goal.invariant-loop-i
invariant-loop-i l = Passed l.self.s.now l.self.k l.from l.self.to l.i × (16 ≤ l.self.to - l.from) × (l.last ≡ l.self.to - 16)

abbrev pub decreases-loop-i : goal.decreases-loop-i
decreases-loop-i l = l.self.to - l.i
