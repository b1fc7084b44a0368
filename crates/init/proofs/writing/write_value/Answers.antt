use Rattle.init.proofs.StepWays.{value-ways}
use borrow.Author.Rules.{rules}
use Rattle.init.proofs.writing.write_value.Goals as goal

pub put_item-requires : goal.put_item-requires
put_item-requires c = search (rules, value-ways)

pub returns-then-lies_in : goal.returns-then-lies_in
returns-then-lies_in c = search (rules, value-ways)

pub returns : goal.returns
returns c = search (rules, value-ways)
