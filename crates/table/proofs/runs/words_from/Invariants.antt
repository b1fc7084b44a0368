-- `words_from`: the first k words are read.
use Rattle.std.proofs.Common.{◌≡◌, ℕ, ◌+◌, ◌<◌, length, get_or}
use Rattle.table.specs.Words.{word_at}
use Rattle.table.proofs.runs.words_from.Given as goal

abbrev pub invariant-loop-k : goal.invariant-loop-k
invariant-loop-k g l = (length l.run ≡ g.row.N) × ((j : ℕ) → j < l.k → get_or l.run j 0 ≡ word_at l.table (l.i + j))
