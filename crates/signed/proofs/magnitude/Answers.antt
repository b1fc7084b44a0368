use Rattle.signed.proofs.Ways.{parts-way}
use Rattle.signed.proofs.magnitude.Goals as goal

pub returns : goal.returns
returns c = rw c.unsigned_abs.ensures.value (parts-way _ c.ranges.word _ c.value-v.ensures)
