use Rattle.std.proofs.Common.{◌≡◌, ◌+◌, ◌-◌, take, drop, ap, ◌∙◌, arith, rules}
use Rattle.std.proofs.lemmas.Fn.{fold_over, slice_gives, fronts}
use Rattle.shelf.proofs.Loops.{Largest, largest_none, largest-more, zeros-are}
use Rattle.shelf.proofs.judge.zeros_from.Goals as goal

pub returns : goal.returns
returns c = let a = c.args in
    let n : a.from + a.k - a.from ≡ a.k = omega arith in
    let h = fold_over fronts (λ y. y.now) _ Largest _ (λ ys a x b f' j k. (largest-more ys a x.now b j (search rules), search rules))
    _ _ _ _ (slice_gives c.iter.result) largest_none c.fold.ensures.ran in
    let e : c.iter.result.rest.now ≡ take a.k (drop a.from a.f.now) = c.iter.ensures.rest ∙ ap (λ x. take x (drop a.from a.f.now)) n in
    rw e at h.zero ∙ zeros-are a.f.now a.from a.k c.requires
