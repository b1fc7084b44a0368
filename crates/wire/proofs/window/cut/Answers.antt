-- The first w bits of what `window` gives.
use Rattle.wire.proofs.WindowLaws.{window-is, first_is}
use borrow.Author.Rules.{rules}
use Rattle.wire.proofs.window.cut.Goals as goal

pub returns-then-i-s : goal.returns-then-i-s
returns-then-i-s c = first_is _ _ _ _ (search rules) (window-is _ _ _ c.eight.ensures)

pub returns : goal.returns
returns c = first_is _ _ _ _ (search rules) (window-is _ _ _ c.last.ensures)
