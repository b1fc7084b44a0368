-- The groups are a quotient's remainder; the first of them tells whether they are the shortest.
use native.Mathlib.Omega.{arith}
use Rattle.wire.proofs.WindowLaws.{mask-some}
use Rattle.wire.proofs.Whole5.{cut-is, cut_fits, way-cut}
use Rattle.wire.proofs.reading.cut5.Goals as goal

pub nonzero_rem-value : goal.nonzero_rem-value
nonzero_rem-value c = mask-some _ (omega arith)

pub overflow_cast-value-3 : goal.overflow_cast-value-3
overflow_cast-value-3 c = record { fits = cut_fits _ _ (omega arith) (omega arith) }

pub returns : goal.returns
returns c = way-cut _ _ (omega arith) (omega arith) _ _ (cut-is _ _ (omega arith) (omega arith))
