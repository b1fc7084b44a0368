-- A list that is not empty.
use Rattle.writer_parts.proofs.CodeWays.{due_ways}
use borrow.Author.Rules.{rules}
use Rattle.writer_parts.proofs.codes.due.Goals as goal

pub returns-then-swaps-gt0 : goal.returns-then-swaps-gt0
returns-then-swaps-gt0 c = search (rules, due_ways)

pub returns : goal.returns
returns c = search (rules, due_ways)
