-- The number, and then the limit.
use Rattle.value.proofs.ReadWays.{way-number-out}
use Rattle.value.proofs.reading.number.Goals as goal

pub returns : goal.returns
returns c = way-number-out _ _ _ _ _ c.vlu5.ensures _ _ c.in_ok-v.was c.if-v-most.false
