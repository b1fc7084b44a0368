use Rattle.shelf.proofs.Resealing.{block_made}
use Rattle.shelf.proofs.Following.{followed-on}
use Rattle.std.proofs.Common.{rules}
use Rattle.shelf.proofs.reseal.seal_block.Goals as goal

pub returns : goal.returns
returns c = record { made = search (rules, block_made); followed = search (rules, followed-on) }
