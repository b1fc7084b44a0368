-- The days, and then the clock where there is one.
use native.Mathlib.Omega.{arith}
use Rattle.value.proofs.DateWays.{date-plain}
use Rattle.value.proofs.dates.read.Goals as goal

pub returns : goal.returns
returns c = date-plain _ _ _ _ _ c.fixed.ensures _ _ c.in_ok-days.was _ c.if-clocked.false (omega arith) c.in_words.ensures
