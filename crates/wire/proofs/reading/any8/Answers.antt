-- By the first byte, and then the second.
use Rattle.std.proofs.lemmas.Result.{err_from_is_err_and}
use Rattle.wire.proofs.ReadWays.{way-eight-refuse, way-eight-one, way-eight-two, seven-left}
use Rattle.wire.proofs.reading.any8.Goals as goal

pub returns-in_err-value : goal.returns-in_err-value
returns-in_err-value c = let p = err_from_is_err_and c.from_residual.result c.from_residual.ensures.1 in rw (p.1, p.2) (way-eight-refuse _ _ _ _ c.fixed.ensures _ c.in_err-value.was)

pub returns-then-value-lt128 : goal.returns-then-value-lt128
returns-then-value-lt128 c = way-eight-one _ _ _ _ c.fixed.ensures _ _ c.in_ok-value.was c.if-value-lt128.true

pub second8-requires : goal.second8-requires
second8-requires c = (c.requires, seven-left _ _ _ _ c.fixed.ensures _ _ c.in_ok-value.was)

pub returns : goal.returns
returns c = way-eight-two _ _ _ _ c.fixed.ensures _ _ c.in_ok-value.was _ c.if-value-lt128.false c.second8.ensures
