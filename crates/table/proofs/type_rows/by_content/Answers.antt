-- `by_content`: the tests that the content chooses.
use Rattle.table.proofs.Choices.{content-ways}
use Rattle.table.proofs.type_rows.by_content.Goals as goal

pub returns-then-content-eq-EMPTY : goal.returns-then-content-eq-EMPTY
returns-then-content-eq-EMPTY c = search content-ways

pub returns-then-content-eq-SIMPLE : goal.returns-then-content-eq-SIMPLE
returns-then-content-eq-SIMPLE c = search content-ways

pub returns : goal.returns
returns c = search content-ways
