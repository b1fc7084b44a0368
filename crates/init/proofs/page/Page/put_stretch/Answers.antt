use mathlib.Core.Path.{refl}
use Rattle.init.proofs.WriteWays.{stretch-more, none_yet}
use Rattle.init.proofs.page.Page.put_stretch.Goals as goal

pub loop-x-init : goal.loop-x-init
loop-x-init c = none_yet _

pub loop-x-preserved : goal.loop-x-preserved
loop-x-preserved c = stretch-more _ _ _ c.args.bytes.now c.loop-x.x-index _ c.loop-x-test.true refl c.loop-x.invariant c.put.ensures
