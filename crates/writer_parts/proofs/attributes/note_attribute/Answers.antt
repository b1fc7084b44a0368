-- By the first word that differs; then by whether it must be there.
use Rattle.writer_parts.proofs.PutWays.{put-kept, put-left}
use Rattle.writer_parts.proofs.JudgingWays.{kind-fine, word-first, word-second}
use Rattle.writer_parts.proofs.AttributeWays.{note_attribute_ways, flag-name}
use borrow.Author.Rules.{rules}
use Rattle.writer_parts.proofs.attributes.note_attribute.Goals as goal

pub returns-in_err-e : goal.returns-in_err-e
returns-in_err-e c =
    let l = put-left c.args.c.event _ (λ e x k. search rules) c.of_kind.result c.map_err.ensures.cases c.in_err-e.was _ c.from_residual.ensures.1 in
    let w = l.1 in
    rw l.2 (search (rules, note_attribute_ways))

pub returns-then-e-name : goal.returns-then-e-name
returns-then-e-name c =
    let k = put-kept _ c.of_kind.result c.map_err.ensures.cases c.in_ok-e.was in
    flag-name _ _ _ _ c.requires _ (kind-fine c.of_kind.ensures.0 _ k) _ (word-first c.of_kind.ensures.1 _ k) (word-second c.of_kind.ensures.1 _ k) _ c.if-e-name.true

pub returns-then-q-gt1 : goal.returns-then-q-gt1
returns-then-q-gt1 c =
    let k = put-kept _ c.of_kind.result c.map_err.ensures.cases c.in_ok-e.was in
    search (rules, note_attribute_ways)

pub returns-then-q-eq0 : goal.returns-then-q-eq0
returns-then-q-eq0 c =
    let k = put-kept _ c.of_kind.result c.map_err.ensures.cases c.in_ok-e.was in
    search (rules, note_attribute_ways)

pub returns-then-must : goal.returns-then-must
returns-then-must c =
    let k = put-kept _ c.of_kind.result c.map_err.ensures.cases c.in_ok-e.was in
    search (rules, note_attribute_ways)

pub returns : goal.returns
returns c =
    let k = put-kept _ c.of_kind.result c.map_err.ensures.cases c.in_ok-e.was in
    search (rules, note_attribute_ways)
