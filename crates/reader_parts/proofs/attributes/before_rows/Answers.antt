-- The attributes, and the value that the content is, if it is one.
use Rattle.reader_parts.proofs.OneWays.{before-stop, before-own}
use Rattle.std.proofs.lemmas.Result.{err_from_is_err_and}
use Rattle.reader_parts.proofs.attributes.before_rows.Goals as goal

pub returns-in_err-cursor : goal.returns-in_err-cursor
returns-in_err-cursor c = let p = err_from_is_err_and c.from_residual.result c.from_residual.ensures.1 in rw (p.1, p.2) (before-stop _ _ _ _ _ _ c.args.k _ _ _ c.all.ensures _ c.in_err-cursor.was)

pub returns : goal.returns
returns c = before-own _ _ _ _ _ _ c.args.k _ _ _ c.all.ensures _ c.in_ok-cursor.was _ c.own_value.ensures _ _ _ c.with_value.ensures
