-- `set_with_table_room`: the setting of the words lent, told of the bytes.
use borrow.Author.Rules.{rules}
use mathlib.Core.Path.{refl, ◌∙◌}
use Rattle.std.proofs.lemmas.Result.{err_from_is_err_and}
use Rattle.call_parts.proofs.SettingLaws.{moved-kept, moved-lost, set-refused, set_holds, set-accepted}
use Rattle.call_parts.proofs.sets.set_with_table_room.Goals as goal

pub store_mark-requires : goal.store_mark-requires
store_mark-requires c = let set = c.set_in_words in
    let load = c.load in
    set_holds _ _ _ _ _ c.requires load.ensures _ _ _ _ set.ensures (moved-kept _ _ _ c.map_err.ensures.cases c.in_ok-map_err.was) _ refl (set.auto.words ∙ load.auto.words)

pub returns-in_err-map_err : goal.returns-in_err-map_err
returns-in_err-map_err c =
    let p = err_from_is_err_and c.from_residual.result c.from_residual.ensures.1 in
    let l = moved-lost _ _ _ (λ f x k. search rules) _ _ c.map_err.ensures.cases _ c.in_err-map_err.was in
    rw (p.1, p.2, l.2) (set-refused _ _ _ _ _ c.requires c.load.ensures _ _ _ _ c.set_in_words.ensures l.0 l.1)

pub returns : goal.returns
returns c = set-accepted _ _ _ _ _ c.requires c.load.ensures _ _ _ _ c.set_in_words.ensures (moved-kept _ _ _ c.map_err.ensures.cases c.in_ok-map_err.was) _ c.store_mark.ensures
