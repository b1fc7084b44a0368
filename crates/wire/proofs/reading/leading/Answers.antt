-- What is left to eight ones is as long as the bits behind the first ones.
use native.Mathlib.Omega.{arith}
use Rattle.wire.proofs.Whole5.{zeros-left, leading_ones}
use Rattle.wire.proofs.reading.leading.Goals as goal

pub overflow_sub-result : goal.overflow_sub-result
overflow_sub-result c = zeros-left _ (omega arith)

pub returns : goal.returns
returns c = leading_ones _ (omega arith)
