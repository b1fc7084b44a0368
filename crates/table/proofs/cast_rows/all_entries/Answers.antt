-- `all_entries`: after i turns the derived entries from i on are left.
use Rattle.table.specs.Words.{derived_at}
use Rattle.table.proofs.FirstLaws.{told}
use Rattle.table.proofs.Lines.{derived-lined}
use Rattle.table.proofs.Turns.{turns-start, turns-done, turn-wrong, turn-right}
use Rattle.table.proofs.cast_rows.all_entries.Goals as goal

pub loop-i-init : goal.loop-i-init
loop-i-init c = turns-start (derived_at _) _ (derived-lined _ _ _) _

pub returns-in_err-entry : goal.returns-in_err-entry
returns-in_err-entry c = told _ _ _ c.from_residual.ensures.1 (turn-wrong (derived_at _) _ (derived-lined _ _ _) _ _ c.loop-i.invariant c.loop-i-test.true _ c.entry.ensures _ c.in_err-entry.was)

pub loop-i-preserved : goal.loop-i-preserved
loop-i-preserved c = turn-right (derived_at _) _ (derived-lined _ _ _) _ _ c.loop-i.invariant c.loop-i-test.true _ c.entry.ensures c.in_ok-entry.was

pub returns : goal.returns
returns c = turns-done (derived_at _) _ (derived-lined _ _ _) _ _ c.loop-i.invariant c.loop-i-test.false
