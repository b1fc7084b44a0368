-- `item_at`: an item of the message cut at the wall.
use mathlib.Core.Path.{◌∙◌}
use Rattle.init.proofs.CutWays.{cut-item}
use Rattle.init.proofs.items.item_at.Goals as goal

pub returns-clause-is : goal.returns-clause-is
returns-clause-is c = c.item_in.ensures.is ∙ cut-item _ _ c.requires _ _
