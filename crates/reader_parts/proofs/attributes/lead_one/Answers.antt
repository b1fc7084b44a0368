-- By its row, or by its flag.
use Rattle.reader_parts.proofs.AttributeWays.{one-ways}
use borrow.Author.Rules.{rules}
use Rattle.reader_parts.proofs.attributes.lead_one.Goals as goal

pub returns-then-must : goal.returns-then-must
returns-then-must c = search (rules, one-ways)

pub returns-in-Err : goal.returns-in-Err
returns-in-Err c = search (rules, one-ways)

pub returns-in-Ok : goal.returns-in-Ok
returns-in-Ok c = search (rules, one-ways)
