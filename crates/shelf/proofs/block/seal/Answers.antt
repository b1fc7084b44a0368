use Rattle.shelf.proofs.Sealing.{sealed}
use Rattle.std.proofs.Common.{rules}
use Rattle.shelf.proofs.block.seal.Goals as goal

pub returns : goal.returns
returns c = search (rules, sealed)
