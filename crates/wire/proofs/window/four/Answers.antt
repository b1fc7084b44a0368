-- The four bytes, one after another.
use Rattle.wire.proofs.WindowLaws.{four_is}
use borrow.Author.Rules.{rules}
use Rattle.wire.proofs.window.four.Goals as goal

pub returns : goal.returns
returns c = search (rules, four_is)
