-- The size over the bits.
use Rattle.writer_parts.proofs.NoteWays.{note_of_ways}
use borrow.Author.Rules.{rules}
use Rattle.writer_parts.proofs.notes.note_of.Goals as goal

pub returns : goal.returns
returns c = search (rules, note_of_ways)
