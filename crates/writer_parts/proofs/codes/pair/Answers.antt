-- One behind the other.
use Rattle.writer_parts.proofs.CodeWays.{pair_ways}
use borrow.Author.Rules.{rules}
use Rattle.writer_parts.proofs.codes.pair.Goals as goal

pub returns : goal.returns
returns c = search (rules, pair_ways)
