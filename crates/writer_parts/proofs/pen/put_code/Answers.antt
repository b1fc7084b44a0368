-- Behind what waits, or over a word that is full.
use Rattle.writer_parts.proofs.PenWays.{code_ways}
use borrow.Author.Rules.{rules}
use Rattle.writer_parts.proofs.pen.put_code.Goals as goal

pub returns-then-sum-lt64 : goal.returns-then-sum-lt64
returns-then-sum-lt64 c = search (rules, code_ways)

pub returns : goal.returns
returns c = search (rules, code_ways)
