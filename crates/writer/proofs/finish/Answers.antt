-- A refusal after the walk, or the payload drawn.
use Rattle.std.proofs.lemmas.Result.{err_from_is_err_and}
use Rattle.writer.proofs.EntryWays.{finish-ways, finish-done}
use borrow.Author.Rules.{rules}
use Rattle.writer.proofs.finish.Goals as goal

pub returns-in_err-judge_after : goal.returns-in_err-judge_after
returns-in_err-judge_after c =
    let p = err_from_is_err_and c.from_residual.result c.from_residual.ensures.1 in
    rw (p.1, p.2) (search (rules, finish-ways, c.in_err-judge_after.was))

pub returns : goal.returns
returns c = finish-done _ _ _ _ c.args.mode _ _ c.requires.1 _ c.judge_after.ensures _ c.in_ok-judge_after.was _ c.draw.ensures
