-- `all_right`: after p turns the rows before p are right if the joints are.
use mathlib.Core.Path.{sym}
use borrow.Author.Tests.{eqb-true, leb-true}
use native.Mathlib.Omega.{arith}
use Rattle.numbers.specs.Limit.{most_name}
use Rattle.table.specs.Words.{particle_at}
use Rattle.table.proofs.Lines.{particles-lined}
use Rattle.table.proofs.Judging.{judged-turn, no-tells-nothing}
use Rattle.table.proofs.Turns.{turns-start, turns-done}
use Rattle.table.proofs.particle_rows.all_right.Goals as goal

pub loop-p-init : goal.loop-p-init
loop-p-init c = λ s z. turns-start (particle_at _ _) _ (particles-lined _ _ _ _) _

pub returns-then-not-row_right : goal.returns-then-not-row_right
returns-then-not-row_right c = no-tells-nothing

pub loop-p-preserved : goal.loop-p-preserved
loop-p-preserved c = λ s z.
    judged-turn (particle_at _ _) _ (particles-lined _ _ _ _) _ _ _ _ _ _ c.loop-p.invariant c.loop-p-test.true
    (c.row_right.ensures c.if-not-row_right.false) s z

pub returns-then-small-le-MOST_NAME : goal.returns-then-small-le-MOST_NAME
returns-then-small-le-MOST_NAME c = λ e.
    sym (turns-done (particle_at _ _) _ (particles-lined _ _ _ _) _ _ (c.loop-p.invariant c.if-small-le-MOST_NAME.true (eqb-true _ _ e)) c.loop-p-test.false)

pub returns-else-small-le-MOST_NAME : goal.returns-else-small-le-MOST_NAME
returns-else-small-le-MOST_NAME c = λ e. let h = leb-true c.loop-p.small most_name e in absurd (omega arith)
