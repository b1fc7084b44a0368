-- Rows, once an event is stored.
use borrow.Author.Rules.{rules}
use Rattle.reader.proofs.GroupWays.{run-ways}
use Rattle.reader.proofs.groups.after_event.Goals as goal

pub returns-in-Err : goal.returns-in-Err
returns-in-Err c = search (rules, run-ways)

pub returns-in-Ok : goal.returns-in-Ok
returns-in-Ok c = search (rules, run-ways)
