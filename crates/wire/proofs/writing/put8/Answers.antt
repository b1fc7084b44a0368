-- One byte, or two.
use mathlib.Core.Path.{refl}
use native.Mathlib.Omega.{arith}
use Rattle.wire.proofs.WriteWays.{length-short8, length-long8, put8-short, put8-long}
use Rattle.wire.proofs.writing.put8.Goals as goal

pub put-p-requires : goal.put-p-requires
put-p-requires c = omega (arith, length-short8 _ c.if-v-lt128.true)

pub returns-then-v-lt128 : goal.returns-then-v-lt128
returns-then-v-lt128 c = (refl, omega arith, put8-short _ _ _ _ _ c.if-v-lt128.true c.put-p.ensures)

pub put-p-requires-2 : goal.put-p-requires-2
put-p-requires-2 c = omega (arith, length-long8 _ c.if-v-lt128.false)

pub returns : goal.returns
returns c = (refl, omega arith, put8-long _ _ _ _ _ c.if-v-lt128.false c.put-p-2.ensures)
