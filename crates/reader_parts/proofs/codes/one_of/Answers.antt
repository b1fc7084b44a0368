-- The flag, then which.
use Rattle.reader_parts.proofs.CodeWays.{one_none, one-refuse, one-off, one-cut, one-fits, one-read}
use Rattle.std.proofs.lemmas.Result.{err_from_is_err_and}
use mathlib.Core.Path.{refl}
use Rattle.reader_parts.proofs.codes.one_of.Goals as goal

pub returns-then-n-eq0 : goal.returns-then-n-eq0
returns-then-n-eq0 c = one_none _ _ _ _ _ c.if-n-eq0.true c.choice.ensures

pub returns-in_err-flag : goal.returns-in_err-flag
returns-in_err-flag c = let p = err_from_is_err_and c.from_residual.result c.from_residual.ensures.1 in rw (p.1, p.2) (one-refuse _ _ _ _ c.if-n-eq0.false _ c.choice-2.ensures _ c.in_err-flag.was)

pub returns-then-flag-eq0 : goal.returns-then-flag-eq0
returns-then-flag-eq0 c = one-off _ _ _ _ c.if-n-eq0.false _ c.choice-2.ensures _ _ c.in_ok-flag.was c.if-flag-eq0.true

pub returns-in_err-v : goal.returns-in_err-v
returns-in_err-v c = let p = err_from_is_err_and c.from_residual-in_err-v.result c.from_residual-in_err-v.ensures.1 in rw (p.1, p.2) (one-cut _ _ _ _ c.if-n-eq0.false _ c.choice-2.ensures _ _ c.in_ok-flag.was c.if-flag-eq0.false _ c.choice-3.ensures _ c.in_err-v.was)

pub overflow_add-result : goal.overflow_add-result
overflow_add-result c = record { fits = one-fits _ _ _ _ c.if-n-eq0.false _ c.choice-2.ensures _ _ c.in_ok-flag.was c.if-flag-eq0.false _ c.choice-3.ensures _ _ c.in_ok-v.was c.ranges.n.fits }

pub returns : goal.returns
returns c = one-read _ _ _ _ c.if-n-eq0.false _ c.choice-2.ensures _ _ c.in_ok-flag.was c.if-flag-eq0.false _ c.choice-3.ensures _ _ c.in_ok-v.was c.ranges.n.fits _ refl
