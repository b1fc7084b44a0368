-- `put_names`: the names passed stand as bytes, over zeros.
use mathlib.Core.Path.{◌≡◌, refl}
use native.Mathlib.Omega.{arith}
use lib.ListN.{length}
use Rattle.call_parts.proofs.Names.{names-none, names_more, names-all}
use Rattle.call_parts.proofs.area.put_names.Goals as goal

pub loop-i-init : goal.loop-i-init
loop-i-init c = names-none c.args.names.now _ c.requires.most (rw c.requires.room at c.clear.ensures)

pub loop-i-preserved : goal.loop-i-preserved
loop-i-preserved c = names_more c.args.names.now _ c.requires.most (rw c.requires.room at c.clear.ensures) _ _ _ _ (omega arith) refl c.loop-i.invariant c.put_half.ensures

pub returns : goal.returns
returns c = let e : c.loop-i.i ≡ length c.args.names.now = omega arith in
    names-all c.args.names.now _ c.requires.most (rw c.requires.room at c.clear.ensures) _ (rw e at c.loop-i.invariant)
