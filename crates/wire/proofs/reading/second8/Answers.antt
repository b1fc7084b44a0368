-- By the ways of its one reading.
use Rattle.std.proofs.lemmas.Result.{err_from_is_err_and}
use Rattle.wire.proofs.ReadWays.{way-second-refuse, way-second-third, way-second-value}
use Rattle.wire.proofs.reading.second8.Goals as goal

pub returns-in_err-y : goal.returns-in_err-y
returns-in_err-y c = let p = err_from_is_err_and c.from_residual.result c.from_residual.ensures.1 in rw (p.1, p.2) (way-second-refuse _ _ _ _ c.fixed.ensures _ c.in_err-y.was _)

pub returns-then-y-ge128 : goal.returns-then-y-ge128
returns-then-y-ge128 c = way-second-third _ _ _ _ c.fixed.ensures _ _ c.in_ok-y.was _ c.if-y-ge128.true

pub returns : goal.returns
returns c = way-second-value _ _ _ _ c.fixed.ensures _ _ c.in_ok-y.was _ c.if-y-ge128.false
