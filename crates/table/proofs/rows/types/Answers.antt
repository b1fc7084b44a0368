-- `types`: word 1.
use Rattle.table.specs.Rows.{table_of}
use Rattle.table.proofs.rows.types.Goals as goal

pub returns : goal.returns
unfolding table_of
returns c = cc
