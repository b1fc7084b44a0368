-- By the ways of none and some.
use Rattle.writer_parts.proofs.NoteWays.{some_ways, some-some}
use borrow.Author.Rules.{rules}
use Rattle.writer_parts.proofs.notes.some_number.Goals as goal

pub returns-then-v-eq0 : goal.returns-then-v-eq0
returns-then-v-eq0 c = search (rules, some_ways)

pub returns : goal.returns
returns c = some-some _ _ c.if-v-eq0.false _ c.inner.ensures _ c.in_ok-c.was _ c.flagged.ensures
