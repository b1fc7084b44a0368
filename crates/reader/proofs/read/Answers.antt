-- A table that is not right.
use borrow.Author.Rules.{rules}
use Rattle.reader.proofs.RootLaws.{entry_ways}
use Rattle.reader.proofs.read.Goals as goal

pub returns-in-Err : goal.returns-in-Err
returns-in-Err c = search (rules, entry_ways)
