-- `set_held`: by the verdict.
use borrow.Author.Rules.{rules}
use Rattle.table.proofs.Parties.{setting-ways}
use Rattle.table.proofs.marks.set_held.Goals as goal

pub set_checked-requires : goal.set_checked-requires
set_checked-requires c = search (rules, setting-ways)

pub returns-in-Err : goal.returns-in-Err
returns-in-Err c = search (rules, setting-ways)

pub returns-in-Ok : goal.returns-in-Ok
returns-in-Ok c = search (rules, setting-ways)
