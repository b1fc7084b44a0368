-- The first i bytes stand.
use mathlib.Core.Path.{◌≡◌}
use native.Mathlib.Omega.{arith}
use lib.ListN.{length}
use Rattle.value.proofs.LayWays.{lay-start, lay-turn, lay-end}
use Rattle.value.proofs.octets.lay.Goals as goal

pub loop-i-init : goal.loop-i-init
loop-i-init c = lay-start _ _

pub loop-i-preserved : goal.loop-i-preserved
loop-i-preserved c = let l = c.loop-i in lay-turn _ _ _ _ _ (omega arith) (omega arith) (c.type_inv.text _) l.invariant

pub returns : goal.returns
returns c =
    let z : c.loop-i.i ≡ length c.args.text.now = omega arith in
    lay-end _ _ _ _ _ (omega arith) (omega arith) (rw z at c.loop-i.invariant)
