-- The end of an element: not met, no room, stored.
use Rattle.reader_parts.proofs.EndsLaws.{close-ways}
use borrow.Author.Rules.{rules}
use Rattle.reader_parts.proofs.ends.close.Goals as goal

pub returns-then-not-met : goal.returns-then-not-met
returns-then-not-met c = search (rules, close-ways)

pub returns : goal.returns
returns c = search (rules, close-ways)
