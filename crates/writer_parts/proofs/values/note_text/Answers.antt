-- An event that is like, and its text, judged and noted.
use Rattle.writer_parts.proofs.PutWays.{put-fine, put-left}
use Rattle.writer_parts.proofs.ValueWays.{text_ways}
use borrow.Author.Rules.{rules}
use Rattle.writer_parts.proofs.values.note_text.Goals as goal

pub returns-in_err-map_err : goal.returns-in_err-map_err
returns-in_err-map_err c =
    let l = put-left c.args.c.event _ (λ e x k. search rules) c.unlike.result c.map_err.ensures.cases c.in_err-map_err.was _ c.from_residual.ensures.1 in
    let w = l.1 in
    rw l.2 (search (rules, text_ways))

pub returns-in_err-map_err-2 : goal.returns-in_err-map_err-2
returns-in_err-map_err-2 c =
    let z = put-fine _ c.unlike.ensures c.map_err.ensures.variant _ c.in_ok-map_err.was in
    let l = put-left c.args.c.event _ (λ e x k. search rules) c.text_fault.result c.map_err-2.ensures.cases c.in_err-map_err-2.was _ c.from_residual-in_err-map_err-2.ensures.1 in
    let w = l.1 in
    rw l.2 (search (rules, text_ways))

pub returns : goal.returns
returns c =
    let z = put-fine _ c.unlike.ensures c.map_err.ensures.variant _ c.in_ok-map_err.was in
    let y = put-fine _ c.text_fault.ensures c.map_err-2.ensures.variant _ c.in_ok-map_err-2.was in
    search (rules, text_ways)

pub overflow_add-result-3 : goal.overflow_add-result-3
overflow_add-result-3 c =
    let z = put-fine _ c.unlike.ensures c.map_err.ensures.variant _ c.in_ok-map_err.was in
    let y = put-fine _ c.text_fault.ensures c.map_err-2.ensures.variant _ c.in_ok-map_err-2.was in
    search (rules, text_ways)

pub overflow_add-result-4 : goal.overflow_add-result-4
overflow_add-result-4 c =
    let z = put-fine _ c.unlike.ensures c.map_err.ensures.variant _ c.in_ok-map_err.was in
    let y = put-fine _ c.text_fault.ensures c.map_err-2.ensures.variant _ c.in_ok-map_err-2.was in
    search (rules, text_ways)
