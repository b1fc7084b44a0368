-- By the form.
use Rattle.writer_parts.proofs.PutWays.{put-kept, put-left}
use Rattle.writer_parts.proofs.ValueWays.{value_ways}
use borrow.Author.Rules.{rules}
use Rattle.writer_parts.proofs.values.value.Goals as goal

pub returns-in_err-e : goal.returns-in_err-e
returns-in_err-e c =
    let l = put-left c.args.c.event _ (λ e x k. search rules) c.of_kind.result c.map_err.ensures.cases c.in_err-e.was _ c.from_residual.ensures.1 in
    let w = l.1 in
    rw l.2 (search (rules, value_ways))

pub returns-in-Number : goal.returns-in-Number
returns-in-Number c =
    let k = put-kept _ c.of_kind.result c.map_err.ensures.cases c.in_ok-e.was in
    search (rules, value_ways)

pub returns-in-Text : goal.returns-in-Text
returns-in-Text c =
    let k = put-kept _ c.of_kind.result c.map_err.ensures.cases c.in_ok-e.was in
    search (rules, value_ways)

pub returns-in-Dated : goal.returns-in-Dated
returns-in-Dated c =
    let k = put-kept _ c.of_kind.result c.map_err.ensures.cases c.in_ok-e.was in
    search (rules, value_ways)
