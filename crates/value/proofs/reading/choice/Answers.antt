-- A fixed width, and then the limit.
use Rattle.value.proofs.ReadWays.{way-choice-out}
use Rattle.value.proofs.reading.choice.Goals as goal

pub returns : goal.returns
returns c = way-choice-out _ _ _ _ _ c.ranges.n.fits c.width.ensures _ c.fixed.ensures _ _ c.in_ok-v.was c.if-v-n.false
