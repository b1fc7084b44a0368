-- Item by item: the state leads to the answer, and each item brings it nearer to the end.
use Prim.Native.Nat.{◌/◌, ◌+◌, ◌-◌, ◌≤◌}
use mathlib.Core.Path.{◌≡◌}
use lib.ListN.{length}
use Rattle.buffers.specs.Bytes.{words_of}
use Rattle.numbers.specs.Limit.{init_words}
use Rattle.init.specs.Phases.{reach, rank}
use Rattle.init.specs.Writes.{Writes, wholly}
use Rattle.init.proofs.writing.write_items.Given as goal

abbrev pub invariant-loop-from : goal.invariant-loop-from
invariant-loop-from l = (reach l.st.phase ≤ init_words)
    × (length l.message ≡ length l.initial.message)
    × (l.st.used ≤ length l.from.codecs.now / 4)
    × Writes l.from.init.now (words_of l.from.codecs.now) l.from.given.now l.initial.message (wholly l.from.init.now (words_of l.from.codecs.now) l.from.given.now) l.st l.message

abbrev pub decreases-loop-from : goal.decreases-loop-from
decreases-loop-from l = length l.from.codecs.now / 4 - l.st.used + rank l.st.phase
