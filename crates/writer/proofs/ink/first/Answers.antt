-- The byte of length coding, with or without the bit of type codes.
use Rattle.writer.proofs.InkLaws.{first-ways}
use borrow.Author.Rules.{rules}
use Rattle.writer.proofs.ink.first.Goals as goal

pub overflow_add-result : goal.overflow_add-result
overflow_add-result c = search (rules, first-ways)

pub returns-then-mode : goal.returns-then-mode
returns-then-mode c = search (rules, first-ways)
