-- The flag, then TheLength where it says so.
use Rattle.reader_parts.proofs.HeadWays.{flagged-refuse, flagged-off, flagged-on}
use Rattle.std.proofs.lemmas.Result.{err_from_is_err_and}
use Rattle.reader_parts.proofs.heads.read_flag.Goals as goal

pub returns-in_err-flag : goal.returns-in_err-flag
returns-in_err-flag c = let p = err_from_is_err_and c.from_residual.result c.from_residual.ensures.1 in rw (p.1, p.2) (flagged-refuse _ _ _ _ c.choice.ensures _ c.in_err-flag.was)

pub returns-then-flag-eq0 : goal.returns-then-flag-eq0
returns-then-flag-eq0 c = flagged-off _ _ _ _ c.choice.ensures _ _ c.in_ok-flag.was c.if-flag-eq0.true

pub returns : goal.returns
returns c = flagged-on _ _ _ _ c.choice.ensures _ _ c.in_ok-flag.was _ c.if-flag-eq0.false c.read_length.ensures
