-- The last eight bytes, and zeros past the end.
use Rattle.wire.proofs.WindowLaws.{last-is, past_is}
use borrow.Author.Rules.{rules}
use Rattle.wire.proofs.window.last.Goals as goal

pub returns-then-n-i : goal.returns-then-n-i
returns-then-n-i c = search (rules, past_is)

pub returns : goal.returns
returns c = search (rules, last-is)
