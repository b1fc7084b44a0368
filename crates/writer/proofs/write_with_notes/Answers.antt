-- A refusal before the walk; or what the walk came to: a refusal, or what `finish` says of it.
use mathlib.Core.Path.{◌∙◌}
use Rattle.std.proofs.lemmas.Result.{err_from_is_err_and}
use Rattle.writer.proofs.EntryWays.{write-ways, write-fine, write-room, write-refused, write-on, write-bits, write-stopped, write_done, zeros-are}
use borrow.Author.Rules.{rules}
use Rattle.writer.proofs.write_with_notes.Goals as goal

pub returns-in_err-mode : goal.returns-in_err-mode
returns-in_err-mode c =
    let p = err_from_is_err_and c.from_residual.result c.from_residual.ensures.1 in
    rw (p.1, p.2) (write-refused _ _ _ _ _ _ _ _ _ c.judge_before.ensures _ c.in_err-mode.was _ c.clear.ensures)

pub particle-requires : goal.particle-requires
particle-requires c =
    let fine = write-fine _ _ _ _ _ _ _ c.judge_before.ensures _ c.in_ok-mode.was in
    search (rules, write-ways, fine, write-room _ _ _ _ _ _ _ fine _ c.requires)

pub returns-in_err-c : goal.returns-in_err-c
returns-in_err-c c =
    let fine = write-fine _ _ _ _ _ _ _ c.judge_before.ensures _ c.in_ok-mode.was in
    let p = err_from_is_err_and c.from_residual-in_err-c.result c.from_residual-in_err-c.ensures.1 in
    rw (p.1, p.2) (search (write-stopped, fine, c.particle.ensures, c.in_err-c.was, c.clear.ensures))

pub finish-requires : goal.finish-requires
finish-requires c = (search (write-on, c.particle.ensures, c.in_ok-c.was), search (write-bits, c.particle.ensures, c.in_ok-c.was), search (zeros-are, c.clear.ensures))

pub shape_of-payload : goal.shape_of-payload
shape_of-payload c = c.finish.auto.payload ∙ c.clear.auto.s

pub returns : goal.returns
returns c =
    let fine = write-fine _ _ _ _ _ _ _ c.judge_before.ensures _ c.in_ok-mode.was in
    search (write_done, fine, c.particle.ensures, c.in_ok-c.was, c.clear.auto.s, c.finish.ensures)
