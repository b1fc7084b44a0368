-- The kind, then the branch.
use Rattle.writer_parts.proofs.PutWays.{put-kept, put-left}
use Rattle.writer_parts.proofs.ValueWays.{pick_ways}
use borrow.Author.Rules.{rules}
use Rattle.writer_parts.proofs.values.pick.Goals as goal

pub returns-in_err-e : goal.returns-in_err-e
returns-in_err-e c =
    let l = put-left c.args.c.event _ (λ e x k. search rules) c.of_kind.result c.map_err.ensures.cases c.in_err-e.was _ c.from_residual.ensures.1 in
    let w = l.1 in
    rw l.2 (search (rules, pick_ways))

pub returns : goal.returns
returns c =
    let k = put-kept _ c.of_kind.result c.map_err.ensures.cases c.in_ok-e.was in
    search (rules, pick_ways)
