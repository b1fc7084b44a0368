use native.Mathlib.Omega.{arith}
use Rattle.std.proofs.lemmas.Grind.{common_steps}
use Rattle.wire.specs.Res.{◌>>=◌}
use Rattle.init.specs.Items.{second_at}
use Rattle.init.specs.Found.{number_is, number_in}
use Rattle.init.proofs.items.second_at.Goals as goal

pub returns-in_err-y : goal.returns-in_err-y
unfolding second_at number_is number_in ◌>>=◌
returns-in_err-y c = grind (arith, common_steps)

pub returns-then-y-ge128 : goal.returns-then-y-ge128
unfolding second_at number_is number_in ◌>>=◌
returns-then-y-ge128 c = grind (arith, common_steps)

pub returns-then-x-eq0 : goal.returns-then-x-eq0
unfolding second_at number_is number_in ◌>>=◌
returns-then-x-eq0 c = grind (arith, common_steps)

pub returns : goal.returns
unfolding second_at number_is number_in ◌>>=◌
returns c = grind (arith, common_steps)
