-- The loop: the first i types of the list are passed, and p is none of them.
use Rattle.writer_parts.proofs.CodeWays.{Passed}
use Rattle.writer_parts.proofs.codes.place_in.Given as goal

abbrev pub invariant-loop-i : goal.invariant-loop-i
invariant-loop-i l = Passed l.table l.types l.p l.i
