-- `particle`: decoded from the words read.
use Rattle.table.specs.Rows.{table_of, row_of}
use Rattle.table.proofs.Decoded.{row_read}
use borrow.Author.Rules.{rules}
use Rattle.table.proofs.inside.particle.Goals as goal

pub returns : goal.returns
unfolding table_of row_of
returns c = search (rules, row_read)
