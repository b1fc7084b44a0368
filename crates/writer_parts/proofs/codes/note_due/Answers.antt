-- An event that is like, and both codes, spelled and noted.
use Rattle.writer_parts.proofs.PutWays.{put-kept, put-left}
use Rattle.writer_parts.proofs.CodeWays.{note_due_ways}
use borrow.Author.Rules.{rules}
use Rattle.writer_parts.proofs.codes.note_due.Goals as goal

pub returns-in_err-e : goal.returns-in_err-e
returns-in_err-e c =
    let l = put-left c.args.c.event _ (λ e x k. search rules) c.of_kind.result c.map_err.ensures.cases c.in_err-e.was _ c.from_residual.ensures.1 in
    let w = l.1 in
    rw l.2 (search (rules, note_due_ways))

pub returns-in_err-both : goal.returns-in_err-both
returns-in_err-both c =
    let k = put-kept _ c.of_kind.result c.map_err.ensures.cases c.in_ok-e.was in
    let l = put-left c.args.c.event _ (λ e x k. search rules) c.spell.result c.map_err-2.ensures.cases c.in_err-both.was _ c.from_residual-in_err-both.ensures.1 in
    let w = l.1 in
    rw l.2 (search (rules, note_due_ways))

pub returns : goal.returns
returns c =
    let k = put-kept _ c.of_kind.result c.map_err.ensures.cases c.in_ok-e.was in
    let h = put-kept _ c.spell.result c.map_err-2.ensures.cases c.in_ok-both.was in
    search (rules, note_due_ways)
