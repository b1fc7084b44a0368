-- By the ways of each code.
use Rattle.writer_parts.proofs.NoteWays.{number_ways}
use borrow.Author.Rules.{rules}
use Rattle.writer_parts.proofs.notes.number.Goals as goal

pub returns-in-Word : goal.returns-in-Word
returns-in-Word c = search (rules, number_ways)

pub returns-in-Signed : goal.returns-in-Signed
returns-in-Signed c = search (rules, number_ways)
