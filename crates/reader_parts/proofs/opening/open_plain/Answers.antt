use borrow.Author.Rules.{rules}
use Rattle.reader_parts.proofs.OpeningWays.{plain-ways}
use Rattle.reader_parts.proofs.opening.open_plain.Goals as goal

pub returns-then-wall-body : goal.returns-then-wall-body
returns-then-wall-body c = search (rules, plain-ways)

pub returns : goal.returns
returns c = search (rules, plain-ways)
