-- `words`: three tests, the last of three parts.
use Rattle.table.proofs.Tests.{test-ways}
use Rattle.table.specs.Valid.{attribute_words}
use Rattle.table.proofs.attribute_rows.words.Goals as goal

pub returns-then-name-gt-MOST_NAME : goal.returns-then-name-gt-MOST_NAME
unfolding attribute_words
returns-then-name-gt-MOST_NAME c = search test-ways depth 12

pub returns-then-must-gt1 : goal.returns-then-must-gt1
unfolding attribute_words
returns-then-must-gt1 c = search test-ways depth 12

pub returns-then-types-t : goal.returns-then-types-t
unfolding attribute_words
returns-then-types-t c = search test-ways depth 12

pub returns-then-content-ne-SIMPLE : goal.returns-then-content-ne-SIMPLE
unfolding attribute_words
returns-then-content-ne-SIMPLE c = search test-ways depth 12

pub returns-then-count-ne0 : goal.returns-then-count-ne0
unfolding attribute_words
returns-then-count-ne0 c = search test-ways depth 12

pub returns : goal.returns
unfolding attribute_words
returns c = search test-ways depth 12
