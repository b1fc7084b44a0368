-- By the ways of a sign and a magnitude.
use Rattle.writer_parts.proofs.NoteWays.{signed_ways}
use borrow.Author.Rules.{rules}
use Rattle.writer_parts.proofs.notes.signed_number.Goals as goal

pub returns-then-m : goal.returns-then-m
returns-then-m c = search (rules, signed_ways)

pub returns : goal.returns
returns c = search (rules, signed_ways)
