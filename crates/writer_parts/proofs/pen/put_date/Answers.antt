-- The days, then the milliseconds.
use Rattle.writer_parts.proofs.PenWays.{date_pen_ways}
use borrow.Author.Rules.{rules}
use Rattle.writer_parts.proofs.pen.put_date.Goals as goal

pub returns : goal.returns
returns c = search (rules, date_pen_ways)

pub put_code-requires : goal.put_code-requires
put_code-requires c = search (rules, date_pen_ways)
