-- An event that is like, and a note without bits.
use Rattle.writer_parts.proofs.PutWays.{put-fine, put-left}
use Rattle.writer_parts.proofs.LeafWays.{mark_ways}
use borrow.Author.Rules.{rules}
use Rattle.writer_parts.proofs.leaves.mark.Goals as goal

pub returns-in_err-map_err : goal.returns-in_err-map_err
returns-in_err-map_err c =
    let l = put-left c.args.c.event _ (λ e x k. search rules) c.unlike.result c.map_err.ensures.cases c.in_err-map_err.was _ c.from_residual.ensures.1 in
    let w = l.1 in
    rw l.2 (search (rules, mark_ways))

pub returns : goal.returns
returns c =
    let z = put-fine _ c.unlike.ensures c.map_err.ensures.variant _ c.in_ok-map_err.was in
    search (rules, mark_ways)
