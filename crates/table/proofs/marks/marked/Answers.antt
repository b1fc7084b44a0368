-- `marked`: the bit taken off, and set again.
use borrow.Author.Rules.{rules}
use Rattle.table.proofs.Parties.{marked-ways}
use Rattle.table.proofs.marks.marked.Goals as goal

pub overflow_mul-rest : goal.overflow_mul-rest
overflow_mul-rest c = search (rules, marked-ways)

pub overflow_sub-rest : goal.overflow_sub-rest
overflow_sub-rest c = search (rules, marked-ways)

pub returns-then-mark-eq0 : goal.returns-then-mark-eq0
returns-then-mark-eq0 c = search (rules, marked-ways)

pub overflow_add-result : goal.overflow_add-result
overflow_add-result c = search (rules, marked-ways)

pub returns : goal.returns
returns c = search (rules, marked-ways)
