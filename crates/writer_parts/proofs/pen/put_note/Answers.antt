-- A code, a text or a date.
use Rattle.writer_parts.proofs.PenWays.{put_note_ways}
use borrow.Author.Rules.{rules}
use Rattle.writer_parts.proofs.pen.put_note.Goals as goal

pub returns-then-x-lt140737488355328 : goal.returns-then-x-lt140737488355328
returns-then-x-lt140737488355328 c = search (rules, put_note_ways)

pub returns-then-x-lt9223372036854775808 : goal.returns-then-x-lt9223372036854775808
returns-then-x-lt9223372036854775808 c = search (rules, put_note_ways)

pub returns : goal.returns
returns c = search (rules, put_note_ways)

pub put_code-requires : goal.put_code-requires
put_code-requires c = search (rules, put_note_ways)

pub put_counted-requires : goal.put_counted-requires
put_counted-requires c = search (rules, put_note_ways)

pub put_date-requires : goal.put_date-requires
put_date-requires c = search (rules, put_note_ways)
