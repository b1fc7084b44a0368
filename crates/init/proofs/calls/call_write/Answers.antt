use Rattle.init.proofs.Calling.{write-other, write-told}
use borrow.Author.Rules.{rules}
use Rattle.init.proofs.calls.call_write.Goals as goal

pub returns-then-area-ne-INIT_AREA : goal.returns-then-area-ne-INIT_AREA
returns-then-area-ne-INIT_AREA c = search (rules, write-other)

pub returns : goal.returns
returns c = search (rules, write-told)
