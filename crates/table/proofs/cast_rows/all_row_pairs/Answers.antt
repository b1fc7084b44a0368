-- `all_row_pairs`: after p turns the pairs from p on are left.
use Rattle.table.specs.Words.{row_pair_at}
use Rattle.table.proofs.FirstLaws.{told}
use Rattle.table.proofs.Lines.{row-pairs-lined}
use Rattle.table.proofs.Turns.{turns-start, turns-done, turn-wrong, turn-right}
use Rattle.table.proofs.cast_rows.all_row_pairs.Goals as goal

pub loop-p-init : goal.loop-p-init
loop-p-init c = turns-start (row_pair_at _ _ _ _) _ (row-pairs-lined _ _ _ _ _ _) _

pub returns-in_err-row_pair : goal.returns-in_err-row_pair
returns-in_err-row_pair c = told _ _ _ c.from_residual.ensures.1 (turn-wrong (row_pair_at _ _ _ _) _ (row-pairs-lined _ _ _ _ _ _) _ _ c.loop-p.invariant c.loop-p-test.true _ c.row_pair.ensures _ c.in_err-row_pair.was)

pub loop-p-preserved : goal.loop-p-preserved
loop-p-preserved c = turn-right (row_pair_at _ _ _ _) _ (row-pairs-lined _ _ _ _ _ _) _ _ c.loop-p.invariant c.loop-p-test.true _ c.row_pair.ensures c.in_ok-row_pair.was

pub returns : goal.returns
returns c = turns-done (row_pair_at _ _ _ _) _ (row-pairs-lined _ _ _ _ _ _) _ _ c.loop-p.invariant c.loop-p-test.false
