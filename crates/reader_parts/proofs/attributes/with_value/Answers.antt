-- By what came before it.
use Rattle.reader_parts.proofs.AttributeWays.{finish-ways}
use borrow.Author.Rules.{rules}
use Rattle.reader_parts.proofs.attributes.with_value.Goals as goal

pub returns-in-Go : goal.returns-in-Go
returns-in-Go c = search (rules, finish-ways)

pub returns-in-Value : goal.returns-in-Value
returns-in-Value c = search (rules, finish-ways)

pub returns-in-Refuse : goal.returns-in-Refuse
returns-in-Refuse c = search (rules, finish-ways)
