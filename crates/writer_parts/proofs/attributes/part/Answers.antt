-- By what the flag came to.
use Rattle.writer_parts.proofs.AttributeWays.{part_ways}
use borrow.Author.Rules.{rules}
use Rattle.writer_parts.proofs.attributes.part.Goals as goal

pub returns-in-Ok-Nothing : goal.returns-in-Ok-Nothing
returns-in-Ok-Nothing c = search (rules, part_ways)

pub returns-in-Ok-Value : goal.returns-in-Ok-Value
returns-in-Ok-Value c = search (rules, part_ways)
