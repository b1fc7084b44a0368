-- An event that is like, and its value, as it was worked out, noted.
use Rattle.writer_parts.proofs.PutWays.{put-fine, put-kept, put-left}
use Rattle.writer_parts.proofs.ValueWays.{coded_ways}
use borrow.Author.Rules.{rules}
use Rattle.writer_parts.proofs.values.note_number.Goals as goal

pub returns-in_err-map_err : goal.returns-in_err-map_err
returns-in_err-map_err c =
    let l = put-left c.args.c.event _ (λ e x k. search rules) c.unlike.result c.map_err.ensures.cases c.in_err-map_err.was _ c.from_residual.ensures.1 in
    let w = l.1 in
    rw l.2 (search (rules, coded_ways))

pub returns-in_err-n : goal.returns-in_err-n
returns-in_err-n c =
    let z = put-fine _ c.unlike.ensures c.map_err.ensures.variant _ c.in_ok-map_err.was in
    let l = put-left c.args.c.event _ (λ e x k. search rules) c.args.s c.map_err-2.ensures.cases c.in_err-n.was _ c.from_residual-in_err-n.ensures.1 in
    let w = l.1 in
    rw l.2 (search (rules, coded_ways))

pub returns : goal.returns
returns c =
    let z = put-fine _ c.unlike.ensures c.map_err.ensures.variant _ c.in_ok-map_err.was in
    let k = put-kept _ c.args.s c.map_err-2.ensures.cases c.in_ok-n.was in
    search (rules, coded_ways)
