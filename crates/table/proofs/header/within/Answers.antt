-- `within`: a header word is judged where it is given.
use Rattle.table.proofs.Given.{not-given, given-wrong, given-right}
use Rattle.table.proofs.header.within.Goals as goal

pub returns-in_default : goal.returns-in_default
returns-in_default c = not-given _ _ _ _ c.in_default.ensures.lookup.3

pub returns-then-x-least : goal.returns-then-x-least
returns-then-x-least c = let h = c.in-Some.ensures.lookup.3 in given-wrong _ _ _ _ h.0 _ (h.1 0) c.then-x-least.either

pub returns : goal.returns
returns c = let h = c.in-Some.ensures.lookup.3 in given-right _ _ _ _ h.0 _ (h.1 0) c.if-x-least.false c.if-most-x.false
