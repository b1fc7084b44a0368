-- One pick after the other.
use Rattle.reader_parts.proofs.CodeWays.{says_first, says_second, says-as}
use Rattle.std.proofs.lemmas.Result.{err_from_is_err_and}
use Rattle.reader_parts.proofs.codes.codes.Goals as goal

pub returns-in_err-own : goal.returns-in_err-own
returns-in_err-own c = let p = err_from_is_err_and c.from_residual.result c.from_residual.ensures.1 in rw (p.1, p.2) (says_first _ c.args.choices _ _ _ _ _ _ c.substitutes_of-swaps.ensures.listed _ c.pick.ensures _ c.in_err-own.was)

pub returns-in_err-effective : goal.returns-in_err-effective
returns-in_err-effective c = let p = err_from_is_err_and c.from_residual-in_err-effective.result c.from_residual-in_err-effective.ensures.1 in rw (p.1, p.2) (says_second _ c.args.choices _ _ _ _ _ _ c.substitutes_of-swaps.ensures.listed _ c.pick.ensures _ _ _ c.in_ok-own.was _ c.derived_of-casts.ensures.listed _ c.pick-2.ensures _ c.in_err-effective.was)

pub returns : goal.returns
returns c = says-as _ c.args.choices _ _ _ _ _ _ c.substitutes_of-swaps.ensures.listed _ c.pick.ensures _ _ _ c.in_ok-own.was _ c.derived_of-casts.ensures.listed _ c.pick-2.ensures _ _ _ _ c.in_ok-effective.was c.sends-sent.ensures
