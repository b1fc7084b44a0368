-- Byte after byte, the highest first.
use native.Mathlib.Omega.{arith}
use lib.ListN.{length-set}
use Rattle.wire.proofs.Store.{stored-first, stored_more, stored_last}
use Rattle.wire.proofs.window.store.Goals as goal

pub bounds-buf-i-2 : goal.bounds-buf-i-2
bounds-buf-i-2 c = simp length-set (omega arith)

pub bounds-buf-i-3 : goal.bounds-buf-i-3
bounds-buf-i-3 c = simp length-set (omega arith)

pub bounds-buf-i-4 : goal.bounds-buf-i-4
bounds-buf-i-4 c = simp length-set (omega arith)

pub bounds-buf-i-5 : goal.bounds-buf-i-5
bounds-buf-i-5 c = simp length-set (omega arith)

pub bounds-buf-i-6 : goal.bounds-buf-i-6
bounds-buf-i-6 c = simp length-set (omega arith)

pub bounds-buf-i-7 : goal.bounds-buf-i-7
bounds-buf-i-7 c = simp length-set (omega arith)

pub bounds-buf-i-8 : goal.bounds-buf-i-8
bounds-buf-i-8 c = simp length-set (omega arith)

pub returns : goal.returns
returns c = stored_last _ _ _ _ (simp length-set (omega arith))
    (stored_more _ _ _ 6 8 _ (simp length-set (omega arith))
    (stored_more _ _ _ 5 16 _ (simp length-set (omega arith))
    (stored_more _ _ _ 4 24 _ (simp length-set (omega arith))
    (stored_more _ _ _ 3 32 _ (simp length-set (omega arith))
    (stored_more _ _ _ 2 40 _ (simp length-set (omega arith))
    (stored_more _ _ _ 1 48 _ (simp length-set (omega arith))
    (stored-first _ _ _ (omega arith) (omega arith))))))))
