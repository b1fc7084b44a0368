use Rattle.shelf.proofs.Following.{followed, walk-fewer, block-cut, on-cut}
use Rattle.std.proofs.Common.{rules}
use Rattle.shelf.proofs.block.cut_block.Goals as goal

pub name_after-first-requires : goal.name_after-first-requires
name_after-first-requires c = search (rules, followed)

pub walk_on-requires : goal.walk_on-requires
walk_on-requires c = search (rules, walk-fewer)

pub returns : goal.returns
returns c = record { made = search (rules, block-cut); followed = search (rules, on-cut) }
