-- `empty`: one test, then those of `unused`.
use Rattle.table.proofs.Tests.{test-ways}
use Rattle.table.specs.Valid.{empty_words}
use Rattle.table.proofs.type_rows.empty.Goals as goal

pub returns-then-a-ne0 : goal.returns-then-a-ne0
unfolding empty_words
returns-then-a-ne0 c = search test-ways depth 12

pub returns : goal.returns
unfolding empty_words
returns c = search test-ways depth 12
