-- `read_checked` judges 2, 26, 3 and 4, in order, then reads the root. Each answer is a way of proofs/RootLaws.
use borrow.Author.Rules.{rules}
use Rattle.reader.proofs.RootLaws.{entry_ways}
use Rattle.reader.proofs.read_checked.Goals as goal

pub returns-then-known-root_type : goal.returns-then-known-root_type
returns-then-known-root_type c = search (rules, entry_ways)

pub returns-then-root_name-gt-MOST_NAME : goal.returns-then-root_name-gt-MOST_NAME
returns-then-root_name-gt-MOST_NAME c = search (rules, entry_ways)

pub returns-then-party-ge-PARTIES : goal.returns-then-party-ge-PARTIES
returns-then-party-ge-PARTIES c = search (rules, entry_ways)

pub returns-in-Err : goal.returns-in-Err
returns-in-Err c = search (rules, entry_ways)
