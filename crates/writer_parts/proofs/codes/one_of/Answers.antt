-- No bits, none, or one of them.
use Rattle.writer_parts.proofs.CodeWays.{one_of_ways}
use borrow.Author.Rules.{rules}
use Rattle.writer_parts.proofs.codes.one_of.Goals as goal

pub flagged-requires : goal.flagged-requires
flagged-requires c = search (rules, one_of_ways)

pub returns : goal.returns
returns c = search (rules, one_of_ways)
