-- `by_kind`: the tests that the kind chooses.
use Rattle.table.proofs.Choices.{particle-ways}
use Rattle.table.proofs.particle_rows.by_kind.Goals as goal

pub returns-then-kind-eq-ELEMENT : goal.returns-then-kind-eq-ELEMENT
returns-then-kind-eq-ELEMENT c = search particle-ways

pub returns-then-kind-eq-SEQUENCE : goal.returns-then-kind-eq-SEQUENCE
returns-then-kind-eq-SEQUENCE c = search particle-ways

pub returns-then-kind-eq-CHOICE : goal.returns-then-kind-eq-CHOICE
returns-then-kind-eq-CHOICE c = search particle-ways

pub returns-then-kind-eq-OCCURS : goal.returns-then-kind-eq-OCCURS
returns-then-kind-eq-OCCURS c = search particle-ways

pub returns : goal.returns
returns c = search particle-ways
