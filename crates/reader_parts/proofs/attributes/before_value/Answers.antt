-- The attribute of the row, or the content's own value.
use Rattle.reader_parts.proofs.AttributeWays.{before-ways}
use borrow.Author.Rules.{rules}
use Rattle.reader_parts.proofs.attributes.before_value.Goals as goal

pub attribute-a-requires : goal.attribute-a-requires
attribute-a-requires c = search (rules, c.requires.2)

pub returns-then-more : goal.returns-then-more
returns-then-more c = search (rules, before-ways)

pub returns : goal.returns
returns c = search (rules, before-ways)
