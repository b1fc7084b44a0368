-- `probe::writing::size8`: wire's laws of the length of a vluimsbf8.
use mathlib.Core.Path.{sym}
use Rattle.wire.proofs.WriteWays.{length-short8, length-long8}
use Rattle.test_leaves.proofs.writing.size8.Goals as goal

pub returns-then-v-lt128 : goal.returns-then-v-lt128
returns-then-v-lt128 c = sym (length-short8 c.args.v c.if-v-lt128.true)

pub returns-else-v-lt128 : goal.returns-else-v-lt128
returns-else-v-lt128 c = sym (length-long8 c.args.v c.if-v-lt128.false)
