-- `occurs`: three tests, of several parts.
use Rattle.table.proofs.Tests.{test-ways}
use Rattle.table.specs.Valid.{occurs_words}
use Rattle.table.proofs.particle_rows.occurs.Goals as goal

pub returns-then-child-p : goal.returns-then-child-p
unfolding occurs_words
returns-then-child-p c = search test-ways depth 12

pub returns-then-particles-child : goal.returns-then-particles-child
unfolding occurs_words
returns-then-particles-child c = search test-ways depth 12

pub returns-then-least-gt-MOST_TIMES : goal.returns-then-least-gt-MOST_TIMES
unfolding occurs_words
returns-then-least-gt-MOST_TIMES c = search test-ways depth 12

pub returns-then-most-eq-UNBOUNDED : goal.returns-then-most-eq-UNBOUNDED
unfolding occurs_words
returns-then-most-eq-UNBOUNDED c = search test-ways depth 12

pub returns-then-most-eq0 : goal.returns-then-most-eq0
unfolding occurs_words
returns-then-most-eq0 c = search test-ways depth 12

pub returns-then-most-gt-MOST_TIMES : goal.returns-then-most-gt-MOST_TIMES
unfolding occurs_words
returns-then-most-gt-MOST_TIMES c = search test-ways depth 12

pub returns-then-most-least : goal.returns-then-most-least
unfolding occurs_words
returns-then-most-least c = search test-ways depth 12

pub returns : goal.returns
unfolding occurs_words
returns c = search test-ways depth 12
