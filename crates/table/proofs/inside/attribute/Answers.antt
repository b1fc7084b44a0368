-- `attribute`: decoded from the words read.
use Rattle.table.proofs.Decoded.{read-attribute}
use Rattle.table.proofs.inside.attribute.Goals as goal

pub returns : goal.returns
returns c = search read-attribute
