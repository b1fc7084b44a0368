-- One test tells whether there is anything.
use Rattle.model.proofs.ModeLaws.{offers-ways}
use Rattle.model.proofs.offered.Goals as goal

pub returns-then-substitutes : goal.returns-then-substitutes
returns-then-substitutes c = search offers-ways

pub returns-else-substitutes : goal.returns-else-substitutes
returns-else-substitutes c = search offers-ways
