use Rattle.init.proofs.PhaseWays.{settle_ways}
use borrow.Author.Rules.{rules}
use Rattle.init.proofs.phases.settle.Goals as goal

pub returns-then-l-gt0 : goal.returns-then-l-gt0
returns-then-l-gt0 c = search (rules, settle_ways)

pub returns-then-l-gt0-2 : goal.returns-then-l-gt0-2
returns-then-l-gt0-2 c = search (rules, settle_ways)

pub returns-then-l-gt0-3 : goal.returns-then-l-gt0-3
returns-then-l-gt0-3 c = search (rules, settle_ways)

pub returns-then-l : goal.returns-then-l
returns-then-l c = search (rules, settle_ways)

pub returns : goal.returns
returns c = search (rules, settle_ways)
