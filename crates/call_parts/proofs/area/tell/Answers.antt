-- `tell`: the six words, and the names after them.
use native.Mathlib.Omega.{arith}
use Rattle.call_parts.proofs.Names.{area-told}
use Rattle.call_parts.proofs.area.tell.Goals as goal

pub returns : goal.returns
returns c = let a = c.args in
    area-told a.place a.mode a.events a.text a.bits _ a.names.now a.area.now _ _ (omega arith)
    c.place_word.ensures c.store.ensures c.put_names.ensures
