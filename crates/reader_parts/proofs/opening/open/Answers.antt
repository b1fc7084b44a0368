use borrow.Author.Rules.{rules}
use Rattle.reader_parts.proofs.OpeningWays.{open-plainly}
use Rattle.reader_parts.proofs.opening.open.Goals as goal

pub returns-then-choices : goal.returns-then-choices
returns-then-choices c = search (rules, open-plainly)

pub returns : goal.returns
returns c = search (rules, open-plainly)
