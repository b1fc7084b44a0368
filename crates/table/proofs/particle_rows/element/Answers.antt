-- `element`: three tests.
use Rattle.table.proofs.Tests.{test-ways}
use Rattle.table.specs.Valid.{element_words}
use Rattle.table.proofs.particle_rows.element.Goals as goal

pub returns-then-name-gt-MOST_NAME : goal.returns-then-name-gt-MOST_NAME
unfolding element_words
returns-then-name-gt-MOST_NAME c = search test-ways depth 12

pub returns-then-types-t : goal.returns-then-types-t
unfolding element_words
returns-then-types-t c = search test-ways depth 12

pub returns-then-last-ne0 : goal.returns-then-last-ne0
unfolding element_words
returns-then-last-ne0 c = search test-ways depth 12

pub returns : goal.returns
unfolding element_words
returns c = search test-ways depth 12
