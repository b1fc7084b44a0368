-- By the ways of the codes that an occurs row may have.
use Rattle.writer_parts.proofs.NoteWays.{count_ways}
use borrow.Author.Rules.{rules}
use Rattle.writer_parts.proofs.notes.count.Goals as goal

pub returns-in-Plain : goal.returns-in-Plain
returns-in-Plain c = search (rules, count_ways)

pub returns-in-Some : goal.returns-in-Some
returns-in-Some c = search (rules, count_ways)

pub returns-in-Shifted : goal.returns-in-Shifted
returns-in-Shifted c = search (rules, count_ways)

pub returns-in-Word : goal.returns-in-Word
returns-in-Word c = search (rules, count_ways)

pub returns-in-Signed : goal.returns-in-Signed
returns-in-Signed c = search (rules, count_ways)
