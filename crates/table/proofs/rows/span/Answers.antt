-- `span`: two words of the type row.
use Rattle.table.specs.Rows.{first_of, count_of}
use Rattle.table.proofs.rows.span.Goals as goal

pub returns : goal.returns
unfolding first_of count_of
returns c = record { first_is = cc; count-is = cc }
