-- At a byte, or behind some bits of it.
use Rattle.writer_parts.proofs.PenWays.{begin_ways}
use borrow.Author.Rules.{rules}
use Rattle.writer_parts.proofs.pen.begin.Goals as goal

pub returns-then-count-eq0 : goal.returns-then-count-eq0
returns-then-count-eq0 c = search (rules, begin_ways)

pub returns : goal.returns
returns c = search (rules, begin_ways)
