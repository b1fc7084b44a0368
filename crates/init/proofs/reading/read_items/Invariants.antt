-- Item by item: the state leads to the answer, and each item brings it nearer to the end.
use Prim.Native.Nat.{◌+◌, ◌-◌, ◌≤◌}
use lib.ListN.{length}
use Rattle.numbers.specs.Limit.{init_words}
use Rattle.init.specs.Phases.{reach, rank}
use Rattle.init.specs.Lent.{Same}
use Rattle.init.specs.Reads.{Reads, whole}
use Rattle.init.proofs.reading.read_items.Given as goal

abbrev pub invariant-loop-lent : goal.invariant-loop-lent
invariant-loop-lent l = (reach l.st.phase ≤ init_words)
    × Same l.initial.lent l.lent
    × Reads l.message l.initial.lent.codecs.now (length l.message) (whole l.message l.initial.lent.codecs.now (length l.message) l.initial.lent.init.now) l.st l.lent.init.now l.lent.codecs.now

abbrev pub decreases-loop-lent : goal.decreases-loop-lent
decreases-loop-lent l = length l.message - l.st.at + rank l.st.phase
