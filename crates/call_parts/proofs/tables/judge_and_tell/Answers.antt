-- `judge_and_tell`: the table wrong.
use mathlib.Core.Path.{◌∙◌}
use Rattle.call_parts.proofs.Judging.{wrong-told}
use Rattle.call_parts.proofs.tables.judge_and_tell.Goals as goal

pub returns-in-Err : goal.returns-in-Err
returns-in-Err c = let p = wrong-told _ _ _ c.check_bytes.ensures _ c.in-Err.is c.tell_place-in-Err.ensures in (c.number.ensures ∙ p.0, p.1)
