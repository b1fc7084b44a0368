use Rattle.std.proofs.Common.{◌≡◌}
use Rattle.shelf.specs.Block.{sum_to}
use Rattle.shelf.proofs.Lanes.{Lanes}
use Rattle.shelf.proofs.sums.sum_words.Given as goal

abbrev pub invariant-loop-i : goal.invariant-loop-i
invariant-loop-i l = Lanes l.s l.from l.i l.even l.odd

abbrev pub invariant-loop-i-2 : goal.invariant-loop-i-2
invariant-loop-i-2 l = l.sum ≡ sum_to l.s l.from l.i
