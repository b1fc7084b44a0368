-- `number`: the eight bytes at eight times the index.
use Rattle.report.proofs.Ways.{at-way}
use Rattle.report.proofs.eights.number.Goals as goal

pub returns : goal.returns
returns c = at-way _ _ _ c.requires c.load.ensures
