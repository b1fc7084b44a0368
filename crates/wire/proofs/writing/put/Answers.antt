-- The bits, and the place past them.
use Rattle.wire.proofs.WriteWays.{wrote-is}
use Rattle.wire.proofs.writing.put.Goals as goal

pub returns : goal.returns
returns c = wrote-is _ _ _ _ _ c.put_bits.ensures
