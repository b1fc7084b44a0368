-- `bim_write`: area_size, or the writing of bytes told in the area.
use Rattle.bim.proofs.CallWays.{write-unlent, write-told}
use borrow.Author.Rules.{rules}
use Rattle.bim.proofs.bim_write.Goals as goal

pub returns-then-area-ne-AREA : goal.returns-then-area-ne-AREA
returns-then-area-ne-AREA c = search (rules, write-unlent)

pub returns : goal.returns
returns c = search (rules, write-told)
