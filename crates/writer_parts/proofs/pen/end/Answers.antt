-- Nothing waits; or it is put as a word, with what stands behind it; or as `put_last` does.
use Rattle.writer_parts.proofs.PenWays.{end_ways}
use borrow.Author.Rules.{rules}
use Rattle.writer_parts.proofs.pen.end.Goals as goal

pub returns-then-n-eq0 : goal.returns-then-n-eq0
returns-then-n-eq0 c = search (rules, end_ways)

pub returns-then-next-payload : goal.returns-then-next-payload
returns-then-next-payload c = search (rules, end_ways)
