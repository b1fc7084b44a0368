-- A row is within the table.
use Rattle.writer.proofs.CycleWays.{row_inside}
use borrow.Author.Rules.{rules}
use Rattle.writer.proofs.cycle.row_for.Goals as goal

pub particle-requires : goal.particle-requires
particle-requires c = search (rules, row_inside)
