-- `all`: after a turns the rows from a on are left.
use Rattle.table.specs.Words.{attribute_at, word_at}
use Rattle.table.specs.Valid.{attribute_row}
use Rattle.table.proofs.Turns.{Left}
use Rattle.table.proofs.attribute_rows.all.Given as goal

abbrev pub invariant-loop-a : goal.invariant-loop-a
invariant-loop-a l = Left (attribute_at l.types) (attribute_row (word_at l.table) l.types) l.attributes l.a
