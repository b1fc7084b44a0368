-- `held`: a bit of the type row's first word.
use Rattle.table.specs.Rows.{held_of}
use Rattle.table.proofs.inside.held.Goals as goal

pub returns : goal.returns
unfolding held_of
returns c = cc
