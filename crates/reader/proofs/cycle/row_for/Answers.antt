-- The root's row, or one of the table.
use borrow.Author.Rules.{rules}
use Rattle.reader.proofs.Ways.{row_ways}
use Rattle.reader.proofs.cycle.row_for.Goals as goal

pub particle-requires : goal.particle-requires
particle-requires c = search (rules, row_ways)
