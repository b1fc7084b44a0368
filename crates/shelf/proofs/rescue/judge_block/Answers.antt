use Rattle.std.proofs.Common.{rules}
use Rattle.std.proofs.lemmas.Result.{err_from_is_err_and}
use Rattle.shelf.specs.Rescue.{known_of}
use Rattle.shelf.proofs.Takes.{fine-some, fine-most, judged-fine, judged-bad}
use Rattle.shelf.proofs.rescue.judge_block.Goals as goal

pub taken-requires : goal.taken-requires
taken-requires c = let a = c.args in
    let r = c.reason in
    let w = c.in_ok-reason.was in
    (search rules, fine-some a.f.now a.i _ r.result r.ensures w, fine-most a.f.now a.i _ r.result r.ensures w, c.requires.2.next)

pub returns-in_err-reason : goal.returns-in_err-reason
returns-in_err-reason c = let a = c.args in
    let p = err_from_is_err_and c.from_residual.result c.from_residual.ensures.1 in
    rw (p.1, p.2) (judged-bad a.f.now a.first a.i (known_of a.known) c.wanted.ensures c.reason.result c.reason.ensures c.in_err-reason.was)

pub returns : goal.returns
returns c = let a = c.args in
    judged-fine a.f.now a.first a.i (known_of a.known) c.wanted.ensures c.reason.result c.reason.ensures c.in_ok-reason.was c.taken.ensures
