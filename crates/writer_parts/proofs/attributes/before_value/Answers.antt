-- The flag, where there is one.
use Rattle.writer_parts.proofs.AttributeWays.{before_value_ways, before-value-value, before-value-nothing, before-value-words}
use borrow.Author.Rules.{rules}
use Rattle.writer_parts.proofs.attributes.before_value.Goals as goal

pub returns-then-q-eq1 : goal.returns-then-q-eq1
returns-then-q-eq1 c = before-value-value _ _ _ _ _ c.requires c.if-s.true _ _ c.note_attribute.ensures _ c.in-Ok.is c.if-q-eq1.true

pub returns-else-q-eq1 : goal.returns-else-q-eq1
returns-else-q-eq1 c = before-value-nothing _ _ _ _ _ c.requires c.if-s.true _ _ c.note_attribute.ensures _ c.in-Ok.is c.if-q-eq1.false

pub returns-then-s-2 : goal.returns-then-s-2
returns-then-s-2 c = search (rules, before_value_ways)

pub returns : goal.returns
returns c = search (rules, before_value_ways)

pub bounds-events-at : goal.bounds-events-at
bounds-events-at c = before-value-words _ _ _ _ c.args.s c.requires c.if-s.true _ _ c.note_attribute.ensures _ c.in-Ok.is
