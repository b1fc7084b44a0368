use Rattle.std.proofs.Common.{◌≡◌}
use Rattle.shelf.specs.Salvage.{stretches}
use Rattle.shelf.specs.Rescue.{known_of, held, gathered, nothing, to_come, Stands}
use Rattle.shelf.proofs.rescue.collect.Given as goal

abbrev pub invariant-loop-i : goal.invariant-loop-i
invariant-loop-i l = Stands l.f l.i l.s × (gathered l.f (held nothing l.initial.fresh l.initial.list) (stretches l.f) ≡ gathered l.f (held l.s.tally l.fresh l.list) (to_come l.f l.i l.s.first (known_of l.s.known)))
