-- `all_type_pairs`: after t turns the pairs from t on are left, and no stamp is over t.
use native.Mathlib.Omega.{arith}
use Rattle.table.specs.Words.{type_pair_at}
use Rattle.table.proofs.CastRows.{under-clear}
use Rattle.table.proofs.FirstLaws.{told}
use Rattle.table.proofs.Lines.{type-pairs-lined}
use Rattle.table.proofs.Turns.{turns-start, turns-done, turn-wrong, turn-right}
use Rattle.table.proofs.cast_rows.all_type_pairs.Goals as goal

pub loop-t-init : goal.loop-t-init
loop-t-init c = (turns-start (type_pair_at _ _ _) _ (type-pairs-lined _ _ _ _) _, under-clear)

pub type_pair-requires : goal.type_pair-requires
type_pair-requires c = record { known = omega arith; entries = c.requires.1; stamped = c.loop-t.invariant.1 }

pub returns-in_err-type_pair : goal.returns-in_err-type_pair
returns-in_err-type_pair c = told _ _ _ c.from_residual.ensures.1 (turn-wrong (type_pair_at _ _ _) _ (type-pairs-lined _ _ _ _) _ _ c.loop-t.invariant.0 c.loop-t-test.true _ c.type_pair.ensures.verdict _ c.in_err-type_pair.was)

pub loop-t-preserved : goal.loop-t-preserved
loop-t-preserved c = (
  turn-right (type_pair_at _ _ _) _ (type-pairs-lined _ _ _ _) _ _ c.loop-t.invariant.0 c.loop-t-test.true _ c.type_pair.ensures.verdict c.in_ok-type_pair.was,
  c.type_pair.ensures.stamped,
)

pub returns : goal.returns
returns c = turns-done (type_pair_at _ _ _) _ (type-pairs-lined _ _ _ _) _ _ c.loop-t.invariant.0 c.loop-t-test.false
