-- A strict reading of a number.
use Rattle.wire.proofs.ReadWays.{named-ways}
use borrow.Author.Rules.{rules}
use Rattle.wire.proofs.reading.vlu8.Goals as goal

pub any8-requires : goal.any8-requires
any8-requires c = search (rules, named-ways)

pub shortest-requires : goal.shortest-requires
shortest-requires c = search (rules, named-ways)

pub returns : goal.returns
returns c = search (rules, named-ways)
