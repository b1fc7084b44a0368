use Rattle.init.proofs.Calling.{read-other, placed-fits, read_told_lem}
use borrow.Author.Rules.{rules}
use Rattle.init.proofs.calls.call_read.Goals as goal

pub returns-then-init-ne-INIT : goal.returns-then-init-ne-INIT
returns-then-init-ne-INIT c = search (rules, read-other)

pub store-requires : goal.store-requires
store-requires c = search (rules, placed-fits)

pub returns : goal.returns
returns c = search (rules, read_told_lem)
