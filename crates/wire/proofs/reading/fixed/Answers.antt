-- The w bits at the place, cut out.
use native.Mathlib.Omega.{arith}
use Rattle.wire.proofs.ReadWays.{fixed-ways, num-fits}
use borrow.Author.Rules.{rules}
use Rattle.wire.proofs.reading.fixed.Goals as goal

pub returns-then-w-gt32 : goal.returns-then-w-gt32
returns-then-w-gt32 c = search (rules, fixed-ways)

pub returns-then-e-a : goal.returns-then-e-a
returns-then-e-a c = search (rules, fixed-ways)

pub returns-then-e-a-2 : goal.returns-then-e-a-2
returns-then-e-a-2 c = search (rules, fixed-ways)

pub overflow_cast-v : goal.overflow_cast-v
overflow_cast-v c = record { fits = num-fits _ _ _ _ (omega arith) c.cut-v.ensures }

pub returns : goal.returns
returns c = search (rules, fixed-ways)
