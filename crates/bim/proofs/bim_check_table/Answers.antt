-- `bim_check_table`: area_size, or the verdict told.
use Rattle.bim.proofs.CallWays.{check-ways}
use borrow.Author.Rules.{rules}
use Rattle.bim.proofs.bim_check_table.Goals as goal

pub returns-then-area-ne-AREA : goal.returns-then-area-ne-AREA
returns-then-area-ne-AREA c = search (rules, check-ways)

pub returns : goal.returns
returns c = search (rules, check-ways)
