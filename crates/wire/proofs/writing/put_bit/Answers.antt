-- A bit that is to be 1 and is 0 is raised, one that is to be 0 and is 1 is lowered, any other stays.
use Prim.Native.Nat.{◌/◌}
use native.Mathlib.Omega.{arith}
use Rattle.wire.specs.Bits.{bit_at}
use Rattle.wire.proofs.Put.{put_up, put-down, put_same, up-byte, down-byte}
use Rattle.wire.proofs.writing.put_bit.Goals as goal

pub overflow_add-buf : goal.overflow_add-buf
unfolding bit_at
overflow_add-buf c = let a = c.args in
    record { fits = up-byte a.buf.now a.at a.x (omega arith) (omega arith) c.if-old-x.true (omega (arith, c.slice_known-1.given (a.at / 8))) }

pub overflow_sub-buf : goal.overflow_sub-buf
unfolding bit_at
overflow_sub-buf c = let a = c.args in
    down-byte a.buf.now a.at a.x (omega arith) (omega arith) c.if-x-old.true

pub returns-then-old-x : goal.returns-then-old-x
unfolding bit_at
returns-then-old-x c = put_up c.args.buf.now _ _ c.requires.0 c.requires.1 c.if-old-x.true

pub returns-then-x-old : goal.returns-then-x-old
unfolding bit_at
returns-then-x-old c = put-down c.args.buf.now _ _ c.requires.0 c.requires.1 c.if-x-old.true

pub returns-else-x-old : goal.returns-else-x-old
unfolding bit_at
returns-else-x-old c = put_same _ _ _ (omega arith)
