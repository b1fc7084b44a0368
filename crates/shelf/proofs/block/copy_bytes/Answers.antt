use Rattle.std.proofs.Common.{◌≡◌, arith}
use Rattle.shelf.proofs.Loops.{copied_none, copied_more}
use Rattle.shelf.proofs.block.copy_bytes.Goals as goal

pub loop-i-init : goal.loop-i-init
loop-i-init c = let a = c.args in copied_none a.s.now a.d.now a.from a.to

pub loop-i-preserved : goal.loop-i-preserved
loop-i-preserved c = let v = c.loop-i in
    let a = c.args in copied_more a.s.now a.d.now a.from a.to v.d v.i (omega arith) v.invariant

pub returns : goal.returns
returns c = let e : c.loop-i.i ≡ c.args.k = omega arith in rw e at c.loop-i.invariant
