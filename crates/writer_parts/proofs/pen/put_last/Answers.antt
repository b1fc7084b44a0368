-- As one word, or as two.
use Rattle.writer_parts.proofs.PenWays.{last_ways}
use borrow.Author.Rules.{rules}
use Rattle.writer_parts.proofs.pen.put_last.Goals as goal

pub returns-then-n-le32 : goal.returns-then-n-le32
returns-then-n-le32 c = search (rules, last_ways)

pub returns : goal.returns
returns c = search (rules, last_ways)
