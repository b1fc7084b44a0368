-- `all_type_pairs`: after t turns the pairs from t on are left, and no stamp is over t.
use Rattle.table.specs.Stamps.{Under}
use Rattle.table.specs.Words.{type_pair_at, word_at}
use Rattle.table.specs.Valid.{type_pair_row}
use Rattle.table.proofs.Turns.{Left}
use Rattle.table.proofs.cast_rows.all_type_pairs.Given as goal

abbrev pub invariant-loop-t : goal.invariant-loop-t
invariant-loop-t l = Left (type_pair_at l.casts.end l.casts.entries l.casts.swaps) (type_pair_row (word_at l.table) l.casts.end l.casts.entries l.casts.swaps) l.types l.t × Under l.t l.stamps
