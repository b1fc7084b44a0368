-- The text at its byte and bit.
use Rattle.value.proofs.OctetsLaws.{text-found}
use borrow.Author.Rules.{rules}
use Rattle.value.proofs.reading.text_fault.Goals as goal

pub returns : goal.returns
returns c = search (rules, text-found c.args.s.now c.type_inv.s)
