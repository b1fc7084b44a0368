-- `content`: decoded from the words read.
use mathlib.Core.Path.{refl}
use Rattle.table.specs.Rows.{table_of}
use Rattle.table.proofs.Decoded.{read-ways, read-particles}
use Rattle.table.proofs.inside.content.Goals as goal

pub returns-then-kind-eq-EMPTY : goal.returns-then-kind-eq-EMPTY
unfolding table_of
returns-then-kind-eq-EMPTY c = search read-ways

pub returns-then-kind-eq-SIMPLE : goal.returns-then-kind-eq-SIMPLE
unfolding table_of
returns-then-kind-eq-SIMPLE c = search read-ways

pub returns : goal.returns
unfolding table_of
returns c = read-particles c.args.table.now _ _ _ _ 0 0 c.type_at-base.ensures refl refl c.if-kind-eq-EMPTY.false c.if-kind-eq-SIMPLE.false
