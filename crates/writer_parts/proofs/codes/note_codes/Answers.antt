-- The codes' event, or nothing.
use Rattle.writer_parts.proofs.CodeWays.{codes_ways}
use borrow.Author.Rules.{rules}
use Rattle.writer_parts.proofs.codes.note_codes.Goals as goal

pub returns : goal.returns
returns c = search (rules, codes_ways)
