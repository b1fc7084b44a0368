-- The name is the innermost.
use Rattle.reader_parts.proofs.PathLaws.{push-names}
use borrow.Author.Rules.{rules}
use Rattle.reader_parts.proofs.Path.push.Goals as goal

pub returns : goal.returns
returns c = search (rules, push-names)
