-- Eight bytes, shifted left past the bits before the place, and right until 57 are left.
use Rattle.wire.proofs.WindowLaws.{window-is}
use Rattle.wire.proofs.window.window.Goals as goal

pub returns-then-i-s : goal.returns-then-i-s
returns-then-i-s c = window-is _ _ _ c.eight.ensures

pub returns : goal.returns
returns c = window-is _ _ _ c.last.ensures
