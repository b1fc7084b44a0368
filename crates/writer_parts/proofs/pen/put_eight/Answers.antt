-- A word is full.
use Rattle.writer_parts.proofs.PenWays.{eight_ways}
use borrow.Author.Rules.{rules}
use Rattle.writer_parts.proofs.pen.put_eight.Goals as goal

pub returns : goal.returns
returns c = search (rules, eight_ways)
