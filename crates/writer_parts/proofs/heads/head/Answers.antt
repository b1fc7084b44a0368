-- By the ways of each length coding and second word.
use Rattle.writer_parts.proofs.HeadWays.{head_ways}
use borrow.Author.Rules.{rules}
use Rattle.writer_parts.proofs.heads.head.Goals as goal

pub returns-else-q-eq0 : goal.returns-else-q-eq0
returns-else-q-eq0 c = search (rules, head_ways)
