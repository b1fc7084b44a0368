-- `all`: after p turns the rows from p on are left.
use mathlib.Core.Path.{sym}
use Rattle.table.specs.Words.{particle_at}
use Rattle.table.proofs.FirstLaws.{told}
use Rattle.table.proofs.Lines.{particles-lined}
use Rattle.table.proofs.Turns.{turns-start, turns-done, turn-wrong, turn-right}
use Rattle.table.proofs.particle_rows.all.Goals as goal

pub returns-then-all_right : goal.returns-then-all_right
returns-then-all_right c = sym (c.all_right.ensures c.if-all_right.true)

pub loop-p-init : goal.loop-p-init
loop-p-init c = turns-start (particle_at _ _) _ (particles-lined _ _ _ _) _

pub returns-in_err-row : goal.returns-in_err-row
returns-in_err-row c = told _ _ _ c.from_residual.ensures.1 (turn-wrong (particle_at _ _) _ (particles-lined _ _ _ _) _ _ c.loop-p.invariant c.loop-p-test.true _ c.row.ensures _ c.in_err-row.was)

pub loop-p-preserved : goal.loop-p-preserved
loop-p-preserved c = turn-right (particle_at _ _) _ (particles-lined _ _ _ _) _ _ c.loop-p.invariant c.loop-p-test.true _ c.row.ensures c.in_ok-row.was

pub returns : goal.returns
returns c = turns-done (particle_at _ _) _ (particles-lined _ _ _ _) _ _ c.loop-p.invariant c.loop-p-test.false
