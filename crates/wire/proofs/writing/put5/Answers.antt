-- The ones, the zero and the groups as one number.
use native.Mathlib.Omega.{arith}
use Rattle.wire.proofs.WriteWays.{shl-two, five-fits, length-code5, put5-done}
use Rattle.wire.proofs.writing.put5.Goals as goal

pub overflow_sub-ones : goal.overflow_sub-ones
overflow_sub-ones c = shl-two _ c.extra-m.ensures.1

pub overflow_add-ones : goal.overflow_add-ones
overflow_add-ones c = let n = c.extra-m.ensures in
    record { fits = five-fits _ _ n.0 n.1 (omega arith) }

pub put_bits-requires : goal.put_bits-requires
put_bits-requires c = omega (arith, length-code5 _ _ c.extra-m.ensures.0)

pub overflow_add-result : goal.overflow_add-result
overflow_add-result c = omega (arith, length-code5 _ _ c.extra-m.ensures.0)

pub returns : goal.returns
returns c = let n = c.extra-m.ensures in
    put5-done _ _ _ _ _ n.0 n.1 (omega arith) c.put_bits.ensures
