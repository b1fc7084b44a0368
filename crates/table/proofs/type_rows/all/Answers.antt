-- `all`: after t turns the rows from t on are left.
use Rattle.table.specs.Words.{type_at}
use Rattle.table.proofs.FirstLaws.{told}
use Rattle.table.proofs.Lines.{types-lined}
use Rattle.table.proofs.Turns.{turns-start, turns-done, turn-wrong, turn-right}
use Rattle.table.proofs.type_rows.all.Goals as goal

pub loop-t-init : goal.loop-t-init
loop-t-init c = turns-start type_at _ (types-lined _ _ _) _

pub returns-in_err-row : goal.returns-in_err-row
returns-in_err-row c = told _ _ _ c.from_residual.ensures.1 (turn-wrong type_at _ (types-lined _ _ _) _ _ c.loop-t.invariant c.loop-t-test.true _ c.row.ensures _ c.in_err-row.was)

pub loop-t-preserved : goal.loop-t-preserved
loop-t-preserved c = turn-right type_at _ (types-lined _ _ _) _ _ c.loop-t.invariant c.loop-t-test.true _ c.row.ensures c.in_ok-row.was

pub returns : goal.returns
returns c = turns-done type_at _ (types-lined _ _ _) _ _ c.loop-t.invariant c.loop-t-test.false
