use Rattle.shelf.proofs.Sealing.{filled_is}
use Rattle.std.proofs.Common.{rules}
use Rattle.shelf.proofs.block.fill.Goals as goal

pub returns : goal.returns
returns c = search (rules, filled_is)
