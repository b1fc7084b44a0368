-- A word, or bit by bit.
use Rattle.wire.proofs.WriteWays.{put-zero}
use Rattle.wire.proofs.writing.put_bits.Goals as goal

pub returns-then-w-eq0 : goal.returns-then-w-eq0
returns-then-w-eq0 c = put-zero _ _ _ _ c.if-w-eq0.true
