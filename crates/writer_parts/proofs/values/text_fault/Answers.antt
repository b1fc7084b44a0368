-- By the first thing wrong.
use Rattle.writer_parts.proofs.ValueWays.{text_fault_ways}
use borrow.Author.Rules.{rules}
use Rattle.writer_parts.proofs.values.text_fault.Goals as goal

pub returns-then-v-gt-MOST_TEXT : goal.returns-then-v-gt-MOST_TEXT
returns-then-v-gt-MOST_TEXT c = search (rules, text_fault_ways)

pub returns-then-texts-used : goal.returns-then-texts-used
returns-then-texts-used c = search (rules, text_fault_ways)

pub returns : goal.returns
returns c = search (rules, text_fault_ways)
