-- The octet at its byte and bit.
use Rattle.value.proofs.OctetsLaws.{byte-found}
use borrow.Author.Rules.{rules}
use Rattle.value.proofs.reading.byte.Goals as goal

pub returns : goal.returns
returns c = search (rules, byte-found c.args.s.now c.type_inv.s)
