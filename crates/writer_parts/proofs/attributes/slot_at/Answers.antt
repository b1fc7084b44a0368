-- An attribute row, or the own value.
use Rattle.writer_parts.proofs.AttributeWays.{slot_ways}
use borrow.Author.Rules.{rules}
use Rattle.writer_parts.proofs.attributes.slot_at.Goals as goal

pub returns-then-i-n : goal.returns-then-i-n
returns-then-i-n c = search (rules, slot_ways)

pub returns-in-Empty : goal.returns-in-Empty
returns-in-Empty c = search (rules, slot_ways)

pub returns-in-Simple : goal.returns-in-Simple
returns-in-Simple c = search (rules, slot_ways)

pub returns-in-Particles : goal.returns-in-Particles
returns-in-Particles c = search (rules, slot_ways)

pub attribute-a-requires : goal.attribute-a-requires
attribute-a-requires c = search (rules, slot_ways)

pub content-requires : goal.content-requires
content-requires c = search (rules, slot_ways)
