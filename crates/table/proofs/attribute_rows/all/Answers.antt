-- `all`: after a turns the rows from a on are left.
use mathlib.Core.Path.{sym}
use Rattle.table.specs.Words.{attribute_at}
use Rattle.table.proofs.FirstLaws.{told}
use Rattle.table.proofs.Lines.{attributes-lined}
use Rattle.table.proofs.Turns.{turns-start, turns-done, turn-wrong, turn-right}
use Rattle.table.proofs.attribute_rows.all.Goals as goal

pub returns-then-all_right : goal.returns-then-all_right
returns-then-all_right c = sym (c.all_right.ensures c.if-all_right.true)

pub loop-a-init : goal.loop-a-init
loop-a-init c = turns-start (attribute_at _) _ (attributes-lined _ _) _

pub returns-in_err-row : goal.returns-in_err-row
returns-in_err-row c = told _ _ _ c.from_residual.ensures.1 (turn-wrong (attribute_at _) _ (attributes-lined _ _) _ _ c.loop-a.invariant c.loop-a-test.true _ c.row.ensures _ c.in_err-row.was)

pub loop-a-preserved : goal.loop-a-preserved
loop-a-preserved c = turn-right (attribute_at _) _ (attributes-lined _ _) _ _ c.loop-a.invariant c.loop-a-test.true _ c.row.ensures c.in_ok-row.was

pub returns : goal.returns
returns c = turns-done (attribute_at _) _ (attributes-lined _ _) _ _ c.loop-a.invariant c.loop-a-test.false
