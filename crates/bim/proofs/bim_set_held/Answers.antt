-- `bim_set_held`: area_size, or the answer told.
use Rattle.bim.proofs.CallWays.{set-call-ways, set_told}
use borrow.Author.Rules.{rules}
use Rattle.bim.proofs.bim_set_held.Goals as goal

pub returns-then-area-ne-AREA : goal.returns-then-area-ne-AREA
returns-then-area-ne-AREA c = search (rules, set-call-ways)

pub returns-in-Ok : goal.returns-in-Ok
returns-in-Ok c = set_told _ _ _ _ _ _ (search rules) _ _ c.in-Ok.ensures c.tell_place.ensures

pub returns-in-Err : goal.returns-in-Err
returns-in-Err c = rw c.number-in-Err.ensures (set_told _ _ _ _ _ _ (search rules) _ _ c.in-Err.ensures c.tell_place-in-Err.ensures)
