-- With a clock, or without.
use Rattle.writer_parts.proofs.NoteWays.{date_note_ways}
use borrow.Author.Rules.{rules}
use Rattle.writer_parts.proofs.notes.date.Goals as goal

pub returns-then-clocked : goal.returns-then-clocked
returns-then-clocked c = search (rules, date_note_ways)

pub returns : goal.returns
returns c = search (rules, date_note_ways)
