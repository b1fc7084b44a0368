-- `row_at`: decoded from the words read.
use borrow.Author.Rules.{rules}
use Rattle.table.proofs.Decoded.{row_read}
use Rattle.table.proofs.rows.row_at.Goals as goal

pub returns : goal.returns
returns c = search (rules, row_read)
