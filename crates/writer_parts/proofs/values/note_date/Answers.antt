-- An event that is like, and its date, noted.
use Rattle.writer_parts.proofs.PutWays.{put-fine, put-kept, put-left}
use Rattle.writer_parts.proofs.ValueWays.{date_ways}
use borrow.Author.Rules.{rules}
use Rattle.writer_parts.proofs.values.note_date.Goals as goal

pub returns-in_err-map_err : goal.returns-in_err-map_err
returns-in_err-map_err c =
    let l = put-left c.args.c.event _ (λ e x k. search rules) c.unlike.result c.map_err.ensures.cases c.in_err-map_err.was _ c.from_residual.ensures.1 in
    let w = l.1 in
    rw l.2 (search (rules, date_ways))

pub returns-in_err-stamp : goal.returns-in_err-stamp
returns-in_err-stamp c =
    let z = put-fine _ c.unlike.ensures c.map_err.ensures.variant _ c.in_ok-map_err.was in
    let l = put-left c.args.c.event _ (λ e x k. search rules) c.stamp_of.result c.map_err-2.ensures.cases c.in_err-stamp.was _ c.from_residual-in_err-stamp.ensures.1 in
    let w = l.1 in
    rw l.2 (search (rules, date_ways))

pub returns : goal.returns
returns c =
    let z = put-fine _ c.unlike.ensures c.map_err.ensures.variant _ c.in_ok-map_err.was in
    let k = put-kept _ c.stamp_of.result c.map_err-2.ensures.cases c.in_ok-stamp.was in
    search (rules, date_ways)
