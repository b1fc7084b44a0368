-- `values`: two tests, the first of two ends.
use Rattle.table.proofs.Tests.{test-ways}
use Rattle.table.specs.Valid.{enumeration_words}
use Rattle.table.proofs.type_rows.values.Goals as goal

pub returns-then-b-eq0 : goal.returns-then-b-eq0
unfolding enumeration_words
returns-then-b-eq0 c = search test-ways depth 12

pub returns-then-b-gt-MOST_VALUES : goal.returns-then-b-gt-MOST_VALUES
unfolding enumeration_words
returns-then-b-gt-MOST_VALUES c = search test-ways depth 12

pub returns-then-c-ne0 : goal.returns-then-c-ne0
unfolding enumeration_words
returns-then-c-ne0 c = search test-ways depth 12

pub returns : goal.returns
unfolding enumeration_words
returns c = search test-ways depth 12
