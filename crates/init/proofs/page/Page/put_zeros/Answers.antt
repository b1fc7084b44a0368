use Rattle.init.proofs.WriteWays.{zeros-more, none_yet}
use Rattle.init.proofs.page.Page.put_zeros.Goals as goal

pub loop-init : goal.loop-init
loop-init c = none_yet _

pub loop-preserved : goal.loop-preserved
loop-preserved c = zeros-more _ _ _ c.loop.counter c.loop.invariant c.put.ensures
