-- By the difference of the ends.
use borrow.Author.Rules.{rules}
use Rattle.value.proofs.KindWays.{ranged_ways}
use Rattle.value.proofs.kinds.ranged.Goals as goal

pub returns-then-k-le-MOST_FIXED : goal.returns-then-k-le-MOST_FIXED
returns-then-k-le-MOST_FIXED c = search (rules, ranged_ways)

pub returns-else-k-le-MOST_FIXED : goal.returns-else-k-le-MOST_FIXED
returns-else-k-le-MOST_FIXED c = search (rules, ranged_ways)
