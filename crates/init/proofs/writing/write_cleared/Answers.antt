use Rattle.init.proofs.MadeWays.{write-ways}
use borrow.Author.Rules.{rules}
use Rattle.init.proofs.writing.write_cleared.Goals as goal

pub finish-requires : goal.finish-requires
finish-requires c = search (rules, write-ways)

pub returns-in-Err : goal.returns-in-Err
returns-in-Err c = search (rules, write-ways)

pub returns-in-Ok : goal.returns-in-Ok
returns-in-Ok c = search (rules, write-ways)
