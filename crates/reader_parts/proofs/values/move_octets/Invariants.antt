-- The octets that are laid so far are the first j: the 16 from `at` on are, and those before `at` were.
use Prim.Native.Nat.{◌-◌, ◌≤◌}
use mathlib.Core.Path.{◌≡◌}
use lib.ListN.{length}
use lib.Seq.{sets}
use Rattle.utf8.specs.Slanted.{octets_at}
use Rattle.utf8.proofs.SlantedLaws.{SoFar}
use Rattle.reader_parts.proofs.values.move_octets.Given as goal

abbrev pub invariant-loop-j : goal.invariant-loop-j
invariant-loop-j l = (length l.texts ≡ length l.initial.texts)
    × (l.j ≤ l.n)
    × (16 ≤ l.n)
    × (l.last ≡ l.n - 16)
    × (l.texts ≡ sets l.initial.texts l.used (octets_at l.payload l.k l.i l.j))
    × SoFar l.payload l.k l.i l.j l.plain

abbrev pub decreases-loop-j : goal.decreases-loop-j
decreases-loop-j l = l.n - l.j
