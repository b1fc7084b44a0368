-- `content`: decoded from the words read.
use Rattle.table.specs.Rows.{table_of}
use Rattle.table.proofs.Decoded.{read-ways}
use Rattle.table.proofs.rows.content.Goals as goal

pub returns-then-kind-eq-EMPTY : goal.returns-then-kind-eq-EMPTY
unfolding table_of
returns-then-kind-eq-EMPTY c = search read-ways

pub returns-then-kind-eq-SIMPLE : goal.returns-then-kind-eq-SIMPLE
unfolding table_of
returns-then-kind-eq-SIMPLE c = search read-ways

pub returns : goal.returns
unfolding table_of
returns c = search read-ways
