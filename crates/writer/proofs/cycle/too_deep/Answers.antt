-- By whether an event is left.
use Rattle.writer.proofs.CycleWays.{deep-here, deep-past}
use borrow.Author.Rules.{rules}
use Rattle.writer.proofs.cycle.too_deep.Goals as goal

pub returns-then-at-events : goal.returns-then-at-events
returns-then-at-events c = search (rules, deep-here, deep-past)

pub returns : goal.returns
returns c = search (rules, deep-here, deep-past)
