-- `row_right`: by the kind.
use borrow.Author.Tests.{ltb-true, leb-true}
use Rattle.table.proofs.Judging.{judging-ways, group-judged, no-tells-nothing}
use Rattle.table.proofs.particle_rows.row_right.Goals as goal

pub returns-then-kind-eq-ELEMENT : goal.returns-then-kind-eq-ELEMENT
returns-then-kind-eq-ELEMENT c = λ e. search (judging-ways, ltb-true)

pub returns-then-x-p : goal.returns-then-x-p
returns-then-x-p c = no-tells-nothing

pub returns-then-counts-x : goal.returns-then-counts-x
returns-then-counts-x c = no-tells-nothing

pub returns-then-z-y : goal.returns-then-z-y
returns-then-z-y c = no-tells-nothing

pub returns-then-z-eq0 : goal.returns-then-z-eq0
returns-then-z-eq0 c = no-tells-nothing

pub returns-then-kind-eq-OCCURS : goal.returns-then-kind-eq-OCCURS
returns-then-kind-eq-OCCURS c = λ e. search (judging-ways, leb-true)

pub returns-then-kind-gt-OCCURS : goal.returns-then-kind-gt-OCCURS
returns-then-kind-gt-OCCURS c = no-tells-nothing

pub returns-then-y-kind : goal.returns-then-y-kind
returns-then-y-kind c = no-tells-nothing

pub returns-then-y-gt-MOST_CHILDREN : goal.returns-then-y-gt-MOST_CHILDREN
returns-then-y-gt-MOST_CHILDREN c = no-tells-nothing

pub returns : goal.returns
returns c = λ e.
    let entry = c.args in
    group-judged entry.table.now _ _ entry.counts.particles _ _ _ c.particle_at-base.ensures c.given_from.ensures _ _ c.if-x-p.false
    c.if-kind-eq-ELEMENT.false c.if-kind-eq-OCCURS.false c.if-kind-gt-OCCURS.false c.if-y-kind.false c.if-y-gt-MOST_CHILDREN.false
    _ c.reaches.ensures e
