-- The octets are held, and then laid; those seen so far are printable, where `plain` still says so.
use Prim.Native.Nat.{◌≤◌}
use mathlib.Core.Path.{◌≡◌}
use lib.ListN.{length}
use Rattle.utf8.proofs.SlantedLaws.{SoFar}
use Rattle.reader_parts.proofs.TextWays.{Held}
use Rattle.reader_parts.proofs.values.block.Given as goal

abbrev pub invariant-loop-j : goal.invariant-loop-j
invariant-loop-j l = (length l.held ≡ 16) × (l.j ≤ l.n) × Held l.payload l.k l.i l.held l.j × SoFar l.payload l.k l.i l.j l.plain
