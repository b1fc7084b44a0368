-- The bits, and then their limit.
use Rattle.value.proofs.DateWays.{clock-over, clock-in}
use Rattle.value.proofs.dates.clock.Goals as goal

pub returns-then-ms-ge-DAY_MILLISECONDS : goal.returns-then-ms-ge-DAY_MILLISECONDS
returns-then-ms-ge-DAY_MILLISECONDS c = clock-over _ _ _ _ _ c.fixed.ensures _ _ c.in_ok-ms.was c.if-ms-ge-DAY_MILLISECONDS.true

pub returns : goal.returns
returns c = clock-in _ _ _ _ _ c.fixed.ensures _ _ c.in_ok-ms.was _ c.ranges.days.fits c.if-ms-ge-DAY_MILLISECONDS.false c.in_words.ensures
