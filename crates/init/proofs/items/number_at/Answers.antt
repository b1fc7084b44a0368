use native.Mathlib.Omega.{arith}
use Rattle.std.proofs.lemmas.Grind.{common_steps}
use Rattle.wire.specs.Res.{◌>>=◌}
use Rattle.init.specs.Items.{number_at}
use Rattle.init.specs.Found.{number_is, number_in}
use Rattle.init.proofs.items.number_at.Goals as goal

pub returns-in_err-x : goal.returns-in_err-x
unfolding number_at number_is number_in ◌>>=◌
returns-in_err-x c = grind (arith, common_steps)

pub returns-then-x-lt128 : goal.returns-then-x-lt128
unfolding number_at number_is number_in ◌>>=◌
returns-then-x-lt128 c = grind (arith, common_steps)

pub returns : goal.returns
unfolding number_at number_is number_in ◌>>=◌
returns c = grind (arith, common_steps)
