-- `all_right`: after a turns the rows before a are right if the joints are small.
use mathlib.Core.Path.{sym}
use borrow.Author.Tests.{eqb-true}
use Rattle.table.specs.Words.{attribute_at}
use Rattle.table.proofs.Lines.{attributes-lined}
use Rattle.table.proofs.Judging.{attribute-turn, no-tells-nothing}
use Rattle.table.proofs.Turns.{turns-start, turns-done}
use Rattle.table.proofs.attribute_rows.all_right.Goals as goal

pub loop-a-init : goal.loop-a-init
loop-a-init c = λ n m z. turns-start (attribute_at _) _ (attributes-lined _ _) _

pub returns-then-types-t : goal.returns-then-types-t
returns-then-types-t c = no-tells-nothing

pub returns-then-table-simple-ne-SIMPLE : goal.returns-then-table-simple-ne-SIMPLE
returns-then-table-simple-ne-SIMPLE c = no-tells-nothing

pub loop-a-preserved : goal.loop-a-preserved
loop-a-preserved c = search attribute-turn

pub returns-then-names-gt-MOST_NAME : goal.returns-then-names-gt-MOST_NAME
returns-then-names-gt-MOST_NAME c = no-tells-nothing

pub returns : goal.returns
returns c = λ e.
    let inv = c.loop-a.invariant c.if-names-gt-MOST_NAME.false c.if-musts-gt1.false (eqb-true _ _ e) in
    sym (turns-done (attribute_at _) _ (attributes-lined _ _) _ _ inv c.loop-a-test.false)
