-- The ones, the zero and the groups as one number.
use native.Mathlib.Omega.{arith}
use Rattle.wire.proofs.WriteWays.{shl-two, five-fits, five-coded}
use Rattle.wire.proofs.writing.coded5.Goals as goal

pub overflow_sub-ones : goal.overflow_sub-ones
overflow_sub-ones c = shl-two _ c.extra-m.ensures.1

pub overflow_add-result : goal.overflow_add-result
overflow_add-result c = let n = c.extra-m.ensures in
    record { fits = five-fits _ _ n.0 n.1 (omega arith) }

pub returns : goal.returns
returns c = let n = c.extra-m.ensures in
    five-coded _ _ n.0 n.1 (omega arith)
