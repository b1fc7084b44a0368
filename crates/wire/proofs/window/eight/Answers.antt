-- The two fours.
use native.Mathlib.Omega.{arith}
use Rattle.wire.proofs.WindowLaws.{four-fits, eight_is}
use borrow.Author.Rules.{rules}
use Rattle.wire.proofs.window.eight.Goals as goal

pub overflow_mul-result : goal.overflow_mul-result
overflow_mul-result c = omega (arith, four-fits _ _ _ c.four-high.ensures)

pub overflow_add-result : goal.overflow_add-result
overflow_add-result c = omega (arith, four-fits _ _ _ c.four-high.ensures, four-fits _ _ _ c.four-low.ensures)

pub returns : goal.returns
returns c = search (rules, eight_is)
