-- `store`: the words passed stand as bytes, and nothing else has changed.
use Prim.Native.Nat.{◌+◌, ◌*◌}
use mathlib.Core.Path.{◌≡◌, refl}
use native.Mathlib.Omega.{arith}
use lib.ListN.{length}
use Rattle.buffers.specs.Bytes.{four}
use Rattle.buffers.proofs.Loops.{stored-none, stored_one, stored-all}
use Rattle.buffers.proofs.store.Goals as goal

pub loop-i-init : goal.loop-i-init
loop-i-init c = stored-none four 4 (λ x. refl) c.args.words.now _

pub loop-i-preserved : goal.loop-i-preserved
loop-i-preserved c = let v = c.loop-i in stored_one c.args.words.now _ v.s _ v.i (v.i + 1) refl (omega arith) (omega arith) v.invariant c.put_word.ensures

pub returns : goal.returns
returns c = let v = c.loop-i in
    let a = c.args in
    let n = 4 * length a.words.now in
    let e : 4 * v.i ≡ n = omega arith in
    stored-all four 4 (λ x. refl) a.words.now a.s.now v.s v.i n (omega arith) (rw e at v.invariant)
