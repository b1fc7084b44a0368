-- The first i bytes stand once byte q + i is closed.
use mathlib.Core.Path.{◌≡◌}
use native.Mathlib.Omega.{arith}
use lib.ListN.{length}
use Rattle.value.proofs.LayWays.{mixed-fits, close-fits, slanted-start, slanted-turn, lay-end}
use Rattle.value.proofs.octets.lay_slanted.Goals as goal

pub loop-i-init : goal.loop-i-init
loop-i-init c = slanted-start _ (omega arith) (omega arith) _ c.args.text.now _ (c.type_inv.buf _)

pub overflow_add-buf : goal.overflow_add-buf
overflow_add-buf c = let a = c.args in
    let l = c.loop-i in
    record { fits = mixed-fits l.c _ 0 0 (c.type_inv.text l.i).fits a.k (omega arith) (omega arith) }

pub loop-i-preserved : goal.loop-i-preserved
loop-i-preserved c = let a = c.args in
    let l = c.loop-i in
    slanted-turn a.k (omega arith) (omega arith) a.buf.now l.buf a.text.now a.q l.c l.i (omega arith) (omega arith) (c.type_inv.text l.i) l.invariant

pub overflow_add-buf-2 : goal.overflow_add-buf-2
overflow_add-buf-2 c = let a = c.args in record { fits = close-fits _ _ a.k (omega arith) (omega arith) }

pub returns : goal.returns
returns c =
    let z : c.loop-i.i ≡ length c.args.text.now = omega arith in
    lay-end _ _ _ _ _ (omega arith) (omega arith) (rw z at c.loop-i.invariant)
