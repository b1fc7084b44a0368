-- The code, then the type that it names.
use Rattle.reader_parts.proofs.CodeWays.{pick-wrong, pick-own, pick-listed}
use Rattle.std.proofs.lemmas.Result.{err_from_is_err_and}
use Rattle.reader_parts.proofs.codes.pick.Goals as goal

pub returns-in_err-k : goal.returns-in_err-k
returns-in_err-k c = let p = err_from_is_err_and c.from_residual.result c.from_residual.ensures.1 in rw (p.1, p.2) (pick-wrong _ _ _ _ _ _ _ c.one_of.ensures _ c.in_err-k.was)

pub returns-then-k-eq0 : goal.returns-then-k-eq0
returns-then-k-eq0 c = pick-own _ _ _ _ _ _ _ c.one_of.ensures _ _ c.in_ok-k.was c.if-k-eq0.true

pub returns : goal.returns
returns c = pick-listed _ _ _ _ _ _ _ c.one_of.ensures _ _ c.in_ok-k.was _ c.if-k-eq0.false c.listed.ensures
