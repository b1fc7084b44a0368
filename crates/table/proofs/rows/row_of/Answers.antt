-- `row_of`: by the row's kind.
use Rattle.table.proofs.Decoded.{row-ways}
use Rattle.table.proofs.rows.row_of.Goals as goal

pub returns-then-kind-eq-ELEMENT : goal.returns-then-kind-eq-ELEMENT
returns-then-kind-eq-ELEMENT c = search row-ways

pub returns-then-kind-eq-SEQUENCE : goal.returns-then-kind-eq-SEQUENCE
returns-then-kind-eq-SEQUENCE c = search row-ways

pub returns-then-kind-eq-CHOICE : goal.returns-then-kind-eq-CHOICE
returns-then-kind-eq-CHOICE c = search row-ways

pub returns : goal.returns
returns c = search row-ways
