-- A strict reading of a number.
use Rattle.wire.proofs.ReadWays.{named-ways}
use borrow.Author.Rules.{rules}
use Rattle.wire.proofs.reading.vlu5.Goals as goal

pub any5-requires : goal.any5-requires
any5-requires c = search (rules, named-ways)

pub shortest-requires : goal.shortest-requires
shortest-requires c = search (rules, named-ways)

pub returns : goal.returns
returns c = search (rules, named-ways)
