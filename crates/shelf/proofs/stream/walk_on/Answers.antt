use Rattle.std.proofs.Common.{rules}
use Rattle.std.proofs.lemmas.Result.{err_from_is_err_and}
use Rattle.shelf.proofs.Following.{follow-ways, on-over, fewer-so}
use Rattle.shelf.proofs.stream.walk_on.Goals as goal

pub walk-requires : goal.walk-requires
walk-requires g c = search (rules, fewer-so)

pub returns-in_err-w : goal.returns-in_err-w
returns-in_err-w g c = let p = err_from_is_err_and c.from_residual.result c.from_residual.ensures.1 in
    rw (p.1, p.2) (on-over (g.S.Stream.bytes c.args.s) 0 c.args.hi c.in_err-w.was)

pub returns : goal.returns
returns g c = search (rules, follow-ways)
