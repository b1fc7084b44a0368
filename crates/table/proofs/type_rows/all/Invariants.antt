-- `all`: after t turns the rows from t on are left.
use Rattle.table.specs.Words.{type_at, word_at}
use Rattle.table.specs.Valid.{type_row}
use Rattle.table.proofs.Turns.{Left}
use Rattle.table.proofs.type_rows.all.Given as goal

abbrev pub invariant-loop-t : goal.invariant-loop-t
invariant-loop-t l = Left type_at (type_row (word_at l.table) l.counts.attributes l.counts.particles) l.counts.types l.t
