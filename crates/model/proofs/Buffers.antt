-- The lent buffers: what is laid at their start, and zeros after it.
use Prim.Native.Nat.{ℕ, zero, suc, ◌-◌, ◌≤◌}
use mathlib.Core.Path.{◌≡◌, refl, ap, ◌∙◌}
use mathlib.Core.List.{List, [], ◌∷◌, ◌++◌}
use native.Mathlib.Omega.{arith}
use lib.ListN.{length, set, replicate}
use lib.Seq.{sets}
use Rattle.model.specs.Model.{Event}
use Rattle.model.specs.Whole.{event_words, filled}

pub words_append : (L K : List Event) → event_words (L ++ K) ≡ event_words L ++ event_words K
unfolding event_words
words_append [] K = refl
words_append (e ∷ L) K = rw (words_append L K)

-- a buffer that was zeroed, with a list laid at its start
sets-past : (x : ℕ) (l m : List ℕ) (i : ℕ) → sets (x ∷ l) (suc i) m ≡ x ∷ sets l i m
sets-past x l [] i = refl
sets-past x l (y ∷ m) i = sets-past x (set l i y) m (suc i)

pub filled-sets : (n : ℕ) (l : List ℕ) → length l ≤ n → sets (replicate n 0) 0 l ≡ filled n l
unfolding filled
filled-sets n [] h = let e : n - 0 ≡ n = omega arith in rw e
filled-sets zero (x ∷ l) h = absurd (omega arith)
filled-sets (suc n) (x ∷ l) h =
    let e : suc n - suc (length l) ≡ n - length l = omega arith in
    rw e (sets-past x (replicate n 0) l 0 ∙ ap (λ (m : List ℕ). x ∷ m) (filled-sets n l (omega arith)))
