use Rattle.init.proofs.PhaseWays.{next_ways}
use borrow.Author.Rules.{rules}
use Rattle.init.proofs.phases.next.Goals as goal

pub returns-in-Profile : goal.returns-in-Profile
returns-in-Profile c = search (rules, next_ways)

pub returns-in-NoFlags : goal.returns-in-NoFlags
returns-in-NoFlags c = search (rules, next_ways)

pub returns-in-Length : goal.returns-in-Length
returns-in-Length c = search (rules, next_ways)

pub returns-in-Flags : goal.returns-in-Flags
returns-in-Flags c = search (rules, next_ways)

pub returns-in-Schemas : goal.returns-in-Schemas
returns-in-Schemas c = search (rules, next_ways)

pub returns-in-Uri : goal.returns-in-Uri
returns-in-Uri c = search (rules, next_ways)

pub returns-in-Hint : goal.returns-in-Hint
returns-in-Hint c = search (rules, next_ways)

pub returns-in-Codec : goal.returns-in-Codec
returns-in-Codec c = search (rules, next_ways)

pub returns-in-OneType : goal.returns-in-OneType
returns-in-OneType c = search (rules, next_ways)

pub returns-in-Formats : goal.returns-in-Formats
returns-in-Formats c = search (rules, next_ways)

pub returns-in-Description : goal.returns-in-Description
returns-in-Description c = search (rules, next_ways)
