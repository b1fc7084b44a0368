use lib.ListN.{take}
use Rattle.init.specs.Inks.{Inks}
use Rattle.init.proofs.page.Page.put_stretch.Given as goal

abbrev pub invariant-loop-x : goal.invariant-loop-x
invariant-loop-x l = Inks l.initial.self (take l.x-index l.bytes) l.self
