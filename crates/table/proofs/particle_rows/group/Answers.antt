-- `group`: three tests, the first two of several parts.
use Rattle.table.proofs.Tests.{test-ways}
use Rattle.table.specs.Valid.{group_words}
use Rattle.table.proofs.particle_rows.group.Goals as goal

pub returns-then-start-p : goal.returns-then-start-p
unfolding group_words
returns-then-start-p c = search test-ways depth 12

pub returns-then-particles-start : goal.returns-then-particles-start
unfolding group_words
returns-then-particles-start c = search test-ways depth 12

pub returns-then-number-least : goal.returns-then-number-least
unfolding group_words
returns-then-number-least c = search test-ways depth 12

pub returns-then-number-gt-MOST_CHILDREN : goal.returns-then-number-gt-MOST_CHILDREN
unfolding group_words
returns-then-number-gt-MOST_CHILDREN c = search test-ways depth 12

pub returns-then-particles-start-2 : goal.returns-then-particles-start-2
unfolding group_words
returns-then-particles-start-2 c = search test-ways depth 12

pub returns-then-last-ne0 : goal.returns-then-last-ne0
unfolding group_words
returns-then-last-ne0 c = search test-ways depth 12

pub returns : goal.returns
unfolding group_words
returns c = search test-ways depth 12
