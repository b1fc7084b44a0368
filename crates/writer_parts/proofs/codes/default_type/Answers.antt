-- The type itself, or one of the list.
use Rattle.writer_parts.proofs.CodeWays.{default_ways}
use borrow.Author.Rules.{rules}
use Rattle.writer_parts.proofs.codes.default_type.Goals as goal

pub returns-then-q-eq0 : goal.returns-then-q-eq0
returns-then-q-eq0 c = search (rules, default_ways)

pub returns : goal.returns
returns c = search (rules, default_ways)
