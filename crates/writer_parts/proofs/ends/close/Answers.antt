-- End is noted, then the head at Start.
use Rattle.writer_parts.proofs.PutWays.{put-fine, put-left}
use Rattle.writer_parts.proofs.EndWays.{close_ways}
use borrow.Author.Rules.{rules}
use Rattle.writer_parts.proofs.ends.close.Goals as goal

pub returns-in_err-map_err : goal.returns-in_err-map_err
returns-in_err-map_err c =
    let l = put-left c.args.e.event _ (λ e x k. search rules) c.unlike.result c.map_err.ensures.cases c.in_err-map_err.was _ c.from_residual.ensures.1 in
    let w = l.1 in
    rw l.2 (search (rules, close_ways))

pub returns : goal.returns
returns c =
    let z = put-fine _ c.unlike.ensures c.map_err.ensures.variant _ c.in_ok-map_err.was in
    search (rules, close_ways)
