-- Each answer is a way of proofs/GroupWays.
use borrow.Author.Rules.{rules}
use Rattle.reader.proofs.GroupWays.{group_ways}
use Rattle.reader.proofs.groups.rows_of.Goals as goal

pub overflow_add-first : goal.overflow_add-first
overflow_add-first c = search (rules, group_ways)

pub returns-in-Element : goal.returns-in-Element
returns-in-Element c = search (rules, group_ways)

pub returns-in-Sequence : goal.returns-in-Sequence
returns-in-Sequence c = search (rules, group_ways)

pub returns-in-Err : goal.returns-in-Err
returns-in-Err c = search (rules, group_ways)

pub returns-in-Ok : goal.returns-in-Ok
returns-in-Ok c = search (rules, group_ways)

pub returns-in-Err-code : goal.returns-in-Err-code
returns-in-Err-code c = search (rules, group_ways)

pub returns-in-Ok-code : goal.returns-in-Ok-code
returns-in-Ok-code c = search (rules, group_ways)
