-- One of n, or a five.
use Rattle.writer_parts.proofs.NoteWays.{inner_ways}
use borrow.Author.Rules.{rules}
use Rattle.writer_parts.proofs.notes.inner.Goals as goal

pub returns-then-v-n : goal.returns-then-v-n
returns-then-v-n c = search (rules, inner_ways)

pub returns-then-v-most : goal.returns-then-v-most
returns-then-v-most c = search (rules, inner_ways)

pub returns-else-v-n : goal.returns-else-v-n
returns-else-v-n c = search (rules, inner_ways)
