-- The loop: the first i bits stand, and nothing else has changed.
use mathlib.Core.Path.{refl, ◌∙◌}
use native.Mathlib.Omega.{arith}
use Rattle.wire.proofs.WriteWays.{put-start, put-turn, put-end}
use Rattle.wire.proofs.writing.put_slow.Goals as goal

pub loop-i-init : goal.loop-i-init
loop-i-init c = (omega arith, refl, put-start _ _ _)

pub put_bit-requires : goal.put_bit-requires
put_bit-requires c = omega (arith, c.digit.ensures)

pub loop-i-preserved : goal.loop-i-preserved
loop-i-preserved c = let inv = c.loop-i.invariant in
    (omega arith, c.put_bit.auto.buf ∙ inv.1, put-turn _ _ _ _ _ _ _ _ (omega arith) c.digit.ensures inv.2 c.put_bit.ensures)

pub returns : goal.returns
returns c = put-end _ _ _ _ _ _ (omega arith) (omega arith) c.loop-i.invariant.2
