-- The sign, and then the magnitude.
use Rattle.std.proofs.lemmas.Result.{err_from_is_err_and}
use Rattle.value.proofs.ReadWays.{way-signed-cut, way-signed-read}
use Rattle.value.proofs.reading.signed_number.Goals as goal

pub returns-in_err-magnitude : goal.returns-in_err-magnitude
returns-in_err-magnitude c = let p = err_from_is_err_and c.from_residual-in_err-magnitude.result c.from_residual-in_err-magnitude.ensures.1 in
    rw (p.1, p.2) (way-signed-cut _ _ _ _ c.choice.ensures _ _ c.in_ok-sign.was _ c.vlu5.ensures _ c.in_err-magnitude.was)

pub returns : goal.returns
returns c = way-signed-read _ _ _ _ c.choice.ensures _ _ c.in_ok-sign.was _ c.vlu5.ensures _ _ _ c.in_ok-magnitude.was c.join.ensures
