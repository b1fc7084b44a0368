-- The type itself, or a place in the list.
use Rattle.writer_parts.proofs.CodeWays.{standing_ways}
use borrow.Author.Rules.{rules}
use Rattle.writer_parts.proofs.codes.standing.Goals as goal

pub returns-then-p-t : goal.returns-then-p-t
returns-then-p-t c = search (rules, standing_ways)

pub returns : goal.returns
returns c = search (rules, standing_ways)
