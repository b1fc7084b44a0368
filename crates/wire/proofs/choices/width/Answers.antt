-- The bits of the last choice.
use native.Mathlib.Omega.{arith}
use lib.Count.{leading_le}
use Rattle.wire.proofs.Width.{width-zeros}
use Rattle.wire.proofs.choices.width.Goals as goal

pub overflow_sub-result : goal.overflow_sub-result
overflow_sub-result c = leading_le 32 _

pub returns : goal.returns
returns c = rw c.saturating_sub.ensures (width-zeros 32 _ (omega arith))
