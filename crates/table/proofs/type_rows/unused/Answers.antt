-- `unused`: two tests.
use Rattle.table.proofs.Tests.{test-ways}
use Rattle.table.specs.Valid.{unused_words}
use Rattle.table.proofs.type_rows.unused.Goals as goal

pub returns-then-b-ne0 : goal.returns-then-b-ne0
unfolding unused_words
returns-then-b-ne0 c = search test-ways depth 12

pub returns-then-c-ne0 : goal.returns-then-c-ne0
unfolding unused_words
returns-then-c-ne0 c = search test-ways depth 12

pub returns : goal.returns
unfolding unused_words
returns c = search test-ways depth 12
