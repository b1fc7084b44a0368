-- `simple`: one test, then those that the kind chooses.
use Rattle.table.proofs.Choices.{kind-ways}
use Rattle.table.proofs.Tests.{test-ways}
use Rattle.table.specs.Valid.{simple_words}
use Rattle.table.proofs.type_rows.simple.Goals as goal

pub returns-then-a-gt-DATE : goal.returns-then-a-gt-DATE
unfolding simple_words
returns-then-a-gt-DATE c = search (test-ways, kind-ways) depth 12

pub returns-then-a-eq-RANGED : goal.returns-then-a-eq-RANGED
unfolding simple_words
returns-then-a-eq-RANGED c = search (test-ways, kind-ways) depth 12

pub returns-then-a-eq-ENUMERATION : goal.returns-then-a-eq-ENUMERATION
unfolding simple_words
returns-then-a-eq-ENUMERATION c = search (test-ways, kind-ways) depth 12

pub returns : goal.returns
unfolding simple_words
returns c = search (test-ways, kind-ways) depth 12
