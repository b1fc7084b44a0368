-- One more turn of each loop, and its end.
use Rattle.std.proofs.Common.{◌≡◌, ℕ, zero, suc, ◌+◌, ◌-◌, ◌*◌, ◌%◌, ◌<◌, ◌≤◌, max, Bool, true, false, cond, eqb, List, [], ◌∷◌, ◌++◌, length, get_or, take, drop, set, sym, refl, ap, ◌∙◌, append_assoc, append-nil, add-one, arith, length-append, take-append-drop, length-take-le, drop-cons, ne_eqb}
use lib.Seq.{set_at}
use Rattle.buffers.specs.Bytes.{word_from}
use Rattle.shelf.specs.Answers.{Over, To}
use Rattle.shelf.specs.Stream.{byte_at, length_at, walk}
use Rattle.shelf.specs.Block.{bytes_from, sum_to}
use Rattle.shelf.specs.Judge.{zeros_from}
use Rattle.shelf.proofs.Walks.{walk-stop, walk-over, walk-on}
use Rattle.shelf.proofs.Bytes.{bytes-long}

-- bytes copied
module _ (s d₀ : List ℕ) (from to : ℕ) where
  pub copied_none : d₀ ≡ take to d₀ ++ bytes_from (byte_at s) from 0 ++ drop (to + 0) d₀
  unfolding bytes_from
  copied_none = let e : to + 0 ≡ to = omega arith in rw (e, append-nil (take to d₀)) (sym (take-append-drop to d₀))

  pub copied_more : (d : List ℕ) (i : ℕ) → to + i < length d₀ → d ≡ take to d₀ ++ bytes_from (byte_at s) from i ++ drop (to + i) d₀
      → set d (to + i) (get_or s (from + i) 0) ≡ take to d₀ ++ bytes_from (byte_at s) from (i + 1) ++ drop (to + (i + 1)) d₀
  unfolding bytes_from
  copied_more d i h e =
      let F = bytes_from (byte_at s) from i in
      let v = get_or s (from + i) 0 in
      let l : length (take to d₀ ++ F) ≡ to + i = length-append (take to d₀) F ∙ omega (arith, length-take-le to d₀ (omega arith), bytes-long (byte_at s) from i) in
      let n : to + (i + 1) ≡ suc (to + i) = omega arith in
      ap (λ (x : List ℕ). set x (to + i) v) (e ∙ ap (λ (x : List ℕ). take to d₀ ++ F ++ x) (drop-cons d₀ (to + i) 0 h))
      ∙ set_at (take to d₀ ++ F) (get_or d₀ (to + i) 0) (drop (suc (to + i)) d₀) v (to + i) l
      ∙ sym (append_assoc (take to d₀ ++ F) (v ∷ []) (drop (suc (to + i)) d₀))
      ∙ ap (λ (x : List ℕ). x ++ drop (suc (to + i)) d₀) (append_assoc (take to d₀) F (v ∷ []))
      ∙ rw (n, add-one i)

-- words summed
pub summed-more : (s : List ℕ) (from i : ℕ) {sum w r : ℕ} → sum ≡ sum_to s from i → w ≡ word_from s (from + 4 * i) → r ≡ (sum + w) % 4294967296 → r ≡ sum_to s from (i + 1)
unfolding sum_to
summed-more s from i e f g = g ∙ rw (e, f, add-one i)

-- records followed
module _ (b : ℕ → ℕ) (end p c q d : ℕ) (e : walk b end p c ≡ walk b end q d) where
  pub follow-stop : end - 1 ≤ q → To q d ≡ walk b end p c
  follow-stop h = sym (e ∙ walk-stop b end q d (omega arith))

  module _ {n : ℕ} (h : q < end - 1) (f : n ≡ length_at b q) where
    pub follow-over : 8192 < n → Over q ≡ walk b end p c
    follow-over l = sym (e ∙ walk-over b end q d (omega arith) (omega arith))

    pub follow-on : n ≤ 8192 → walk b end p c ≡ walk b end (q + 6 + n) (d + 1)
    follow-on l = e ∙ walk-on b end q d (omega arith) (omega arith) ∙ ap (λ (x : ℕ). walk b end (q + 6 + x) (d + 1)) (sym f)

-- bytes all 0, of which the largest is 0
abbrev none_but_zeros : List ℕ → Bool
none_but_zeros [] = true
none_but_zeros (x ∷ l) = cond (eqb x 0) (none_but_zeros l) false

pub record Largest (l : List ℕ) (most : ℕ) : Type 0 where
  pub zero : eqb most 0 ≡ none_but_zeros l

zeros-then : (l : List ℕ) (x : ℕ) → none_but_zeros (l ++ x ∷ []) ≡ cond (none_but_zeros l) (cond (eqb x 0) true false) false
zeros-then [] x = refl
zeros-then (y ∷ l) x = by (eqb y 0) (zeros-then l x)
  where
    by : (t : Bool) → none_but_zeros (l ++ x ∷ []) ≡ cond (none_but_zeros l) (cond (eqb x 0) true false) false
        → cond t (none_but_zeros (l ++ x ∷ [])) false ≡ cond (cond t (none_but_zeros l) false) (cond (eqb x 0) true false) false
    by true e = e
    by false e = refl

pub largest-more : (l : List ℕ) (a x r : ℕ) → Largest l a → r ≡ max a x → Largest (l ++ x ∷ []) r
largest-more l a x r h m =
    record { zero = by_most a x r m ∙ ap (λ (t : Bool). cond t (cond (eqb x 0) true false) false) h.zero ∙ sym (zeros-then l x) }
  where
    by_most : (a b r : ℕ) → r ≡ max a b → eqb r 0 ≡ cond (eqb a 0) (cond (eqb b 0) true false) false
    by_most zero zero r m = rw m
    by_most zero (suc b) r m = simp (ne_eqb (suc b) 0 (λ (n : suc b ≡ 0). omega arith), ne_eqb r 0 (λ (n : r ≡ 0). omega arith))
    by_most (suc a) b r m = simp (ne_eqb (suc a) 0 (λ (n : suc a ≡ 0). omega arith), ne_eqb r 0 (λ (n : r ≡ 0). omega arith))

pub largest_none : Largest [] 0
largest_none = record { zero = refl }

pub zeros-are : (f : List ℕ) (from k : ℕ) → from + k ≤ length f → none_but_zeros (take k (drop from f)) ≡ zeros_from f from k
unfolding zeros_from
zeros-are f from zero h = refl
zeros-are f from (suc k) h =
    rw (drop-cons f from 0 (omega arith), ← add-one from, zeros-are f (from + 1) k (omega arith))
