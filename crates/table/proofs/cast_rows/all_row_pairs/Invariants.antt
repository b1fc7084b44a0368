-- `all_row_pairs`: after p turns the pairs from p on are left.
use Rattle.table.specs.Words.{row_pair_at, word_at}
use Rattle.table.specs.Valid.{row_pair_row}
use Rattle.table.proofs.Turns.{Left}
use Rattle.table.proofs.cast_rows.all_row_pairs.Given as goal

abbrev pub invariant-loop-p : goal.invariant-loop-p
invariant-loop-p l = Left (row_pair_at l.casts.end l.casts.entries l.casts.swaps l.counts.types) (row_pair_row (word_at l.table) l.counts.types l.counts.attributes l.casts.end l.casts.entries l.casts.swaps) l.counts.particles l.p
