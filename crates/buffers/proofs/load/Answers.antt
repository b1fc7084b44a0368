-- `load`: the words passed are those of the bytes, and nothing else has changed; eight a round, then one.
use Prim.Native.Nat.{◌+◌, ◌*◌}
use mathlib.Core.Path.{◌≡◌, refl}
use native.Mathlib.Omega.{arith}
use Rattle.buffers.proofs.Loops.{loaded-more, loaded-two}
use Rattle.buffers.proofs.load.Goals as goal

pub loop-round-preserved : goal.loop-round-preserved
loop-round-preserved c = let v = c.loop-round in
    let a = c.args in
    let i = 8 * v.round in
    let two = loaded-two a.s.now a.words.now v.words _ i (i + 2) refl (omega arith) (omega arith) v.invariant c.load_two.ensures in
    let four = loaded-two a.s.now a.words.now _ _ (i + 2) (i + 4) (omega arith) (omega arith) (omega arith) two c.load_two-in-loop-round.ensures in
    let six = loaded-two a.s.now a.words.now _ _ (i + 4) (i + 6) (omega arith) (omega arith) (omega arith) four c.load_two-in-loop-round-2.ensures in
    loaded-two a.s.now a.words.now _ _ (i + 6) (8 * (v.round + 1)) (omega arith) (omega arith) (omega arith) six c.load_two-in-loop-round-3.ensures

pub loop-i-preserved : goal.loop-i-preserved
loop-i-preserved c = let v = c.loop-i in loaded-more _ _ v.words v.i _ (omega arith) (omega arith) c.word.ensures v.invariant

pub returns : goal.returns
returns c = let v = c.loop-i in let e : v.i ≡ c.args.n = omega arith in rw e at v.invariant
