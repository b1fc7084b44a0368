-- `row_words`: two tests, by the kind.
use Rattle.table.proofs.CastRows.{row-words-ways}
use Rattle.table.proofs.Tests.{test-ways}
use Rattle.table.proofs.cast_rows.row_words.Goals as goal

pub returns-then-start-ne0 : goal.returns-then-start-ne0
returns-then-start-ne0 c = search (test-ways, row-words-ways) depth 12

pub returns-then-count-ne0 : goal.returns-then-count-ne0
returns-then-count-ne0 c = search (test-ways, row-words-ways) depth 12

pub returns-then-kind-ne-ELEMENT : goal.returns-then-kind-ne-ELEMENT
returns-then-kind-ne-ELEMENT c = search (test-ways, row-words-ways) depth 12

pub returns-then-swaps-start : goal.returns-then-swaps-start
returns-then-swaps-start c = search (test-ways, row-words-ways) depth 12

pub returns-then-swaps-start-2 : goal.returns-then-swaps-start-2
returns-then-swaps-start-2 c = search (test-ways, row-words-ways) depth 12

pub returns : goal.returns
returns c = search (test-ways, row-words-ways) depth 12
