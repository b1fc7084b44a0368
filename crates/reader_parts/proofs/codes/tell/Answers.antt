-- The event, or nothing.
use Rattle.reader_parts.proofs.CodeWays.{tell-ways}
use borrow.Author.Rules.{rules}
use Rattle.reader_parts.proofs.codes.tell.Goals as goal

pub returns-then-x : goal.returns-then-x
returns-then-x c = search (rules, tell-ways)

pub returns : goal.returns
returns c = search (rules, tell-ways)
