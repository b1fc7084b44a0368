-- The bit, and then the number.
use Rattle.std.proofs.lemmas.Result.{err_from_is_err_and}
use Rattle.value.proofs.ReadWays.{way-some-cut, way-some-zero, way-some-read}
use Rattle.value.proofs.reading.some_number.Goals as goal

pub returns-in_err-v : goal.returns-in_err-v
returns-in_err-v c = let p = err_from_is_err_and c.from_residual-in_err-v.result c.from_residual-in_err-v.ensures.1 in
    rw (p.1, p.2) (way-some-cut _ _ _ _ _ c.choice.ensures _ _ c.in_ok-flag.was c.if-flag-eq0.false _ c.inner.ensures _ c.in_err-v.was)

pub returns-then-v-eq0 : goal.returns-then-v-eq0
returns-then-v-eq0 c = way-some-zero _ _ _ _ _ c.choice.ensures _ _ c.in_ok-flag.was c.if-flag-eq0.false _ c.inner.ensures _ _ c.in_ok-v.was c.if-v-eq0.true

pub returns : goal.returns
returns c = way-some-read _ _ _ _ _ c.choice.ensures _ _ c.in_ok-flag.was c.if-flag-eq0.false _ c.inner.ensures _ _ c.in_ok-v.was c.if-v-eq0.false
