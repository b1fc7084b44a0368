-- `read_code`: area_size, or the answer told.
use borrow.Author.Rules.{rules}
use Rattle.bim.proofs.Codes.{code-ways, code-told}
use Rattle.bim.proofs.bits.read_code.Goals as goal

pub returns-then-area-ne-BITS_AREA : goal.returns-then-area-ne-BITS_AREA
returns-then-area-ne-BITS_AREA c = search (rules, code-ways)

pub returns : goal.returns
returns c = rw c.number_and_value-number.ensures (code-told _ _ _ _ _ c.code-a.result (search rules) c.code-a.ensures (rw c.number_and_value-number.ensures at c.store.ensures))
