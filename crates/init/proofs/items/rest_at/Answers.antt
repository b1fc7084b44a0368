use native.Mathlib.Omega.{arith}
use Rattle.std.proofs.lemmas.Grind.{common_steps}
use Rattle.wire.specs.Res.{guard, at_most, ◌>>◌}
use Rattle.init.specs.Items.{pass, rest_at}
use Rattle.init.specs.Found.{found_is, found_in}
use Rattle.init.proofs.items.rest_at.Goals as goal

pub returns-in_err-judge_before : goal.returns-in_err-judge_before
unfolding rest_at pass found_is found_in guard at_most ◌>>◌
returns-in_err-judge_before c = grind (arith, common_steps)

pub returns-then-wall-p : goal.returns-then-wall-p
unfolding rest_at pass found_is found_in guard at_most ◌>>◌
returns-then-wall-p c = grind (arith, common_steps)

pub returns-in_err-judge_after : goal.returns-in_err-judge_after
unfolding rest_at pass found_is found_in guard at_most ◌>>◌
returns-in_err-judge_after c = grind (arith, common_steps)

pub returns : goal.returns
unfolding rest_at pass found_is found_in guard at_most ◌>>◌
returns c = grind (arith, common_steps)
