-- What came before its value, and that.
use Rattle.reader_parts.proofs.AttributeWays.{finished}
use borrow.Author.Rules.{rules}
use Rattle.reader_parts.proofs.attributes.part.Goals as goal

pub returns : goal.returns
returns c = search (rules, finished)
