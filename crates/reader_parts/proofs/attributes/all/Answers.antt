-- What is left of the attributes, at each turn, is what was asked for.
use Rattle.reader_parts.proofs.OneWays.{left-all, left-more, left-none, left-stop}
use Rattle.std.proofs.lemmas.Result.{err_from_is_err_and}
use mathlib.Core.Path.{refl}
use native.Mathlib.Omega.{arith}
use borrow.Author.Rules.{rules}
use Rattle.reader_parts.proofs.attributes.all.Goals as goal

pub loop-row-init : goal.loop-row-init
loop-row-init c = (refl, refl, left-all _ _ _ _ _ _ _ _ c.span-own.ensures)

pub returns-in_err-cursor : goal.returns-in_err-cursor
returns-in_err-cursor c = let p = err_from_is_err_and c.from_residual.result c.from_residual.ensures.1 in rw (p.1, p.2) (left-stop _ _ _ _ _ _ _ _ _ _ _ c.loop-row.invariant.2 (omega arith) _ c.attribute-a.ensures _ _ _ c.one.ensures _ c.in_err-cursor.was)

pub loop-row-preserved : goal.loop-row-preserved
loop-row-preserved c = (search rules, search rules, left-more _ _ _ _ _ _ _ _ _ _ _ c.loop-row.invariant.2 (omega arith) _ c.attribute-a.ensures _ _ _ c.one.ensures _ c.in_ok-cursor.was)

pub returns : goal.returns
returns c = left-none _ _ _ _ _ _ _ _ _ _ _ c.loop-row.invariant.2 (omega arith)
