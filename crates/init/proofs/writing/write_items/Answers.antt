-- Item by item: the state leads to the answer, and each item brings it nearer to the end.
use mathlib.Core.Path.{refl}
use native.Mathlib.Omega.{arith}
use Rattle.std.proofs.lemmas.Result.{err_from_is_err_and}
use Rattle.init.specs.Phases.{reach, ends}
use Rattle.init.proofs.StepWays.{start-writes, writes-done, step-stops, step-goes}
use borrow.Author.Rules.{rules}
use Rattle.init.proofs.writing.write_items.Goals as goal

pub loop-from-init : goal.loop-from-init
unfolding reach
loop-from-init c = (omega arith, refl, omega arith, start-writes _ _ _ _)

pub write_item-requires : goal.write_item-requires
unfolding ends
write_item-requires c = record { used = search rules; lies = search rules; goes = search rules }

pub returns-in_err-st : goal.returns-in_err-st
returns-in_err-st c = let v = c.loop-from in
    let p = err_from_is_err_and c.from_residual.result c.from_residual.ensures.1 in
    rw (p.1, p.2) (step-stops _ _ _ _ _ _ v.st c.write_item.result _ (c.write_item.ensures _ _ v.invariant.3) _ c.in_err-st.was)

pub loop-from-smaller : goal.loop-from-smaller
loop-from-smaller c = let v = c.loop-from in (step-goes _ _ _ _ _ _ v.st c.write_item.result _ (c.write_item.ensures _ _ v.invariant.3) _ c.in_ok-st.was).falls

pub loop-from-preserved : goal.loop-from-preserved
loop-from-preserved c = let v = c.loop-from in let g = step-goes _ _ _ _ _ _ v.st c.write_item.result _ (c.write_item.ensures _ _ v.invariant.3) _ c.in_ok-st.was in (g.lies, omega arith, g.uses, g.writes)

pub returns : goal.returns
unfolding ends
returns c = let v = c.loop-from in writes-done _ _ _ _ _ _ v.st _ (search rules) v.invariant.2 v.invariant.3
