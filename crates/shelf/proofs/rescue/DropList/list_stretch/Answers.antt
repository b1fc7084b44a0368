use Rattle.std.proofs.Common.{rules}
use Rattle.shelf.proofs.Lists.{goods-at, good-again, good-done, few-end}
use Rattle.shelf.proofs.rescue.DropList.list_stretch.Goals as goal

pub list_good-requires : goal.list_good-requires
list_good-requires c = search (rules, goods-at)

pub loop-i-preserved : goal.loop-i-preserved
loop-i-preserved c = search (rules, good-again)

pub returns : goal.returns
returns c = search (rules, good-done, few-end)
