-- `set_in_words`: the setting of the part that is lent.
use native.Mathlib.Omega.{arith}
use lib.ListN.{length-take}
use Rattle.call_parts.proofs.SettingLaws.{front-set}
use Rattle.call_parts.proofs.sets.set_in_words.Goals as goal

pub slice_bounds-set_held-end-2 : goal.slice_bounds-set_held-end-2
slice_bounds-set_held-end-2 c = simp length-take (omega arith)

pub returns : goal.returns
returns c = let r = c.set_held in
    front-set c.args.n c.args.words.now r.new.table r.result _ _ _ c.requires r.auto.table r.ensures
