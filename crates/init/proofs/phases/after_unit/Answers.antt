use Rattle.init.proofs.PhaseWays.{unit_ways}
use borrow.Author.Rules.{rules}
use Rattle.init.proofs.phases.after_unit.Goals as goal

pub returns-then-v-eq1 : goal.returns-then-v-eq1
returns-then-v-eq1 c = search (rules, unit_ways)

pub returns : goal.returns
returns c = search (rules, unit_ways)
