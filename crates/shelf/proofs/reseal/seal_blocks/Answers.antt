use Rattle.std.proofs.Common.{rules}
use Rattle.shelf.proofs.Resealing.{sealed-more, followed-next}
use Rattle.shelf.proofs.Cutting.{cut-none, cut-end}
use Rattle.shelf.proofs.Following.{walk_none, followed-at}
use Rattle.shelf.proofs.reseal.seal_blocks.Goals as goal

pub loop-i-init : goal.loop-i-init
loop-i-init c = (cut-none _ _ _, walk_none _ _)

pub seal_block-w-requires : goal.seal_block-w-requires
seal_block-w-requires c = search (rules, followed-at)

pub loop-i-preserved : goal.loop-i-preserved
loop-i-preserved c = search (rules, sealed-more, followed-next)

pub returns : goal.returns
returns c = search (rules, cut-end)
