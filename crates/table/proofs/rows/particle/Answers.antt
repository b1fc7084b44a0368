-- `particle`: the row behind the header's own numbers of types and attribute rows.
use Rattle.table.specs.Rows.{table_of, row_of}
use Rattle.table.proofs.rows.particle.Goals as goal

pub returns : goal.returns
unfolding table_of row_of
returns c = cc
