-- `all_substitutes`: after i turns the substitutes from i on are left.
use Rattle.table.specs.Words.{substitute_at}
use Rattle.table.proofs.FirstLaws.{told}
use Rattle.table.proofs.Lines.{substitutes-lined}
use Rattle.table.proofs.Turns.{turns-start, turns-done, turn-wrong, turn-right}
use Rattle.table.proofs.cast_rows.all_substitutes.Goals as goal

pub loop-i-init : goal.loop-i-init
loop-i-init c = turns-start (substitute_at _ _) _ (substitutes-lined _ _ _ _) _

pub returns-in_err-substitute : goal.returns-in_err-substitute
returns-in_err-substitute c = told _ _ _ c.from_residual.ensures.1 (turn-wrong (substitute_at _ _) _ (substitutes-lined _ _ _ _) _ _ c.loop-i.invariant c.loop-i-test.true _ c.substitute.ensures _ c.in_err-substitute.was)

pub loop-i-preserved : goal.loop-i-preserved
loop-i-preserved c = turn-right (substitute_at _ _) _ (substitutes-lined _ _ _ _) _ _ c.loop-i.invariant c.loop-i-test.true _ c.substitute.ensures c.in_ok-substitute.was

pub returns : goal.returns
returns c = turns-done (substitute_at _ _) _ (substitutes-lined _ _ _ _) _ _ c.loop-i.invariant c.loop-i-test.false
