-- `front`: four tests.
use Rattle.table.proofs.Tests.{test-ways}
use Rattle.table.specs.Valid.{front_words}
use Rattle.table.proofs.type_rows.front.Goals as goal

pub returns-then-held-gt-MOST_HELD : goal.returns-then-held-gt-MOST_HELD
unfolding front_words
returns-then-held-gt-MOST_HELD c = search test-ways depth 12

pub returns-then-content-gt-PARTICLES : goal.returns-then-content-gt-PARTICLES
unfolding front_words
returns-then-content-gt-PARTICLES c = search test-ways depth 12

pub returns-then-attributes-start : goal.returns-then-attributes-start
unfolding front_words
returns-then-attributes-start c = search test-ways depth 12

pub returns-then-attributes-start-2 : goal.returns-then-attributes-start-2
unfolding front_words
returns-then-attributes-start-2 c = search test-ways depth 12

pub returns : goal.returns
unfolding front_words
returns c = search test-ways depth 12
