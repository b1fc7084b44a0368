-- The loop: v is the number that the first k bytes are.
use native.Mathlib.Omega.{arith}
use Rattle.wire.specs.Bits.{num}
use Rattle.wire.proofs.WindowLaws.{few-fits, few-turn, few-end}
use borrow.Author.Rules.{rules}
use Rattle.wire.proofs.window.few.Goals as goal

pub loop-k-init : goal.loop-k-init
unfolding num
loop-k-init c = search rules

pub overflow_mul-v : goal.overflow_mul-v
overflow_mul-v c = omega (arith, few-fits _ _ _ _ (search rules) c.loop-k.invariant.1)

pub overflow_add-v : goal.overflow_add-v
overflow_add-v c = omega (arith, few-fits _ _ _ _ (search rules) c.loop-k.invariant.1)

pub loop-k-preserved : goal.loop-k-preserved
loop-k-preserved c = (omega arith, few-turn _ _ _ _ _ c.loop-k.invariant.1 c.byte.ensures)

pub returns : goal.returns
returns c = few-end _ _ _ _ c.loop-k.invariant.0 c.loop-k-test.false c.loop-k.invariant.1
