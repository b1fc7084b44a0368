use lib.ListN.{replicate}
use Rattle.init.specs.Inks.{Inks}
use Rattle.init.proofs.page.Page.put_zeros.Given as goal

abbrev pub invariant-loop : goal.invariant-loop
invariant-loop l = Inks l.initial.self (replicate l.counter 0) l.self
