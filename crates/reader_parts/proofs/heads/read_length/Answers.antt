-- TheLength, and the end that it says.
use Rattle.reader_parts.proofs.HeadWays.{measured-refuse, measured-before, measured-past, measured-in}
use Rattle.std.proofs.lemmas.Result.{err_from_is_err_and}
use mathlib.Core.Path.{refl}
use Rattle.reader_parts.proofs.heads.read_length.Goals as goal

pub returns-in_err-n : goal.returns-in_err-n
returns-in_err-n c = let p = err_from_is_err_and c.from_residual.result c.from_residual.ensures.1 in rw (p.1, p.2) (measured-refuse _ _ _ _ c.any5.ensures _ c.in_err-n.was)

pub returns-then-w-b : goal.returns-then-w-b
returns-then-w-b c = measured-before _ _ _ _ c.any5.ensures _ c.in_ok-n.was c.if-w-b.true

pub returns-then-w-b-2 : goal.returns-then-w-b-2
returns-then-w-b-2 c = measured-past _ _ _ _ c.any5.ensures _ c.in_ok-n.was c.if-w-b.false c.if-w-b-2.true

pub returns : goal.returns
returns c = measured-in _ _ _ _ c.any5.ensures _ c.in_ok-n.was _ c.if-w-b.false c.if-w-b-2.false refl
