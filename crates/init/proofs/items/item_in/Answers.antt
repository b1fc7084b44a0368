use native.Mathlib.Omega.{arith}
use Rattle.std.proofs.lemmas.Grind.{common_steps}
use Rattle.wire.specs.Res.{◌>>=◌}
use Rattle.init.specs.Items.{item_at}
use Rattle.init.specs.Found.{number_is, number_in, found_is, found_in}
use Rattle.init.proofs.items.item_in.Goals as goal

pub rest_at-requires : goal.rest_at-requires
unfolding number_in
rest_at-requires c = grind (arith, common_steps)

pub returns-in_err-v : goal.returns-in_err-v
unfolding item_at number_is found_is number_in found_in ◌>>=◌
returns-in_err-v c = grind (arith, common_steps)

pub returns : goal.returns
unfolding item_at number_is number_in ◌>>=◌
returns c = grind (arith, common_steps)
