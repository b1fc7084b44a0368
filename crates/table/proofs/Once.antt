-- No number twice: lists that grow at their end, and the stamps that tell what stands in one.
use Prim.Native.Nat.{ℕ, zero, suc, ◌+◌, ◌-◌, ◌≤◌, ◌<◌}
use mathlib.Core.Path.{◌≡◌, refl, sym, ap, ◌∙◌}
use mathlib.Core.List.{List, [], ◌∷◌, ◌++◌}
use mathlib.Core.Bool.{Bool, true, false, not, ◌||◌, true≢false, and-false, or-true, or-false, or_assoc}
use native.Mathlib.Omega.{arith}
use borrow.Author.Tests.{eqb-true, eqb-false, eq-eqb, ne_eqb, not-true}
use lib.Dec.{eqb}
use lib.ListN.{get_or, set, length-set}
use lib.Seq.{get_or-set_same, get_or-set_other}
use Rattle.numbers.specs.Limit.{most_types}
use Rattle.table.proofs.FirstLaws.{both_true}
use Rattle.table.specs.Stamps.{Stamped, Under}
use Rattle.table.specs.Valid.{among, once, words_from}
use Rattle.table.specs.Words.{word_at}

-- n words in two parts, with the one between them
words-split : (w : ℕ → ℕ) (i n k m : ℕ) → n ≡ k + suc m → words_from w i n ≡ words_from w i k ++ (w (i + k) ∷ words_from w (i + k + 1) m)
unfolding words_from
words-split w i zero k m e = absurd (omega arith)
words-split w i (suc n) zero m e = let q : n ≡ m = omega arith in let z : i + 0 ≡ i = omega arith in rw (z, q)
words-split w i (suc n) (suc k) m e =
    ap (λ (l : List ℕ). w i ∷ l) (words-split w (i + 1) n k m (omega arith) ∙ (let q : i + 1 + k ≡ i + suc k = omega arith in rw q))

neither : (x y : Bool) → (x || y) ≡ false → (x ≡ false) × (y ≡ false)
neither false y e = (refl, e)
neither true y e = absurd (true≢false e)

among-end : (x y : ℕ) (l : List ℕ) → among x (l ++ (y ∷ [])) ≡ (among x l || eqb x y)
unfolding among
among-end x y [] = or-false (eqb x y)
among-end x y (z ∷ l) = ap (λ (b : Bool). eqb x z || b) (among-end x y l) ∙ sym (or_assoc (eqb x z) (among x l) (eqb x y))

among_in : (x : ℕ) (l m : List ℕ) → among x (l ++ (x ∷ m)) ≡ true
unfolding among
among_in x [] m = rw (eq-eqb x x refl)
among_in x (z ∷ l) m = rw (among_in x l m) (or-true (eqb x z))

-- a list with another number at its end; one with a number that it has
once-end : (l : List ℕ) (y : ℕ) → once l ≡ true → among y l ≡ false → once (l ++ (y ∷ [])) ≡ true
unfolding once among
once-end [] y e f = refl
once-end (z ∷ l) y e f =
    let h = both_true _ _ e in
    let g = neither _ _ f in
    let other : eqb z y ≡ false = ne_eqb z y (λ q. eqb-false y z g.0 (sym q)) in
    rw (among-end z y l, not-true (among z l) h.0, other, once-end l y h.1 g.1)

twice-by : (b : Bool) (l m : List ℕ) (y z : ℕ) → eqb y z ≡ b → (b || among y l) ≡ true → (among y l ≡ true → once (l ++ (y ∷ m)) ≡ false)
    → once (z ∷ (l ++ (y ∷ m))) ≡ false
unfolding once
twice-by true l m y z e f g = let q : y ≡ z = eqb-true y z e in let h : among z (l ++ (y ∷ m)) ≡ true = rw q (among_in z l m) in rw h
twice-by false l m y z e f g = rw (g f) (and-false (not (among z (l ++ (y ∷ m)))))

once-twice : (l m : List ℕ) (y : ℕ) → among y l ≡ true → once (l ++ (y ∷ m)) ≡ false
unfolding among
once-twice [] m y e = absurd (true≢false (sym e))
once-twice (z ∷ l) m y e = twice-by (eqb y z) l m y z refl e (once-twice l m y)

-- which numbers have the stamp: those of a list
pub record Tells (stamp : ℕ) (seen stamps : List ℕ) : Type 0 where
  pub under : Under stamp stamps
  pub tells : (x : ℕ) → x < most_types → eqb (get_or stamps x 0) stamp ≡ among x seen

-- a new stamp is over all others
tells_none : (stamps : List ℕ) (t : ℕ) → Under t stamps → Tells (t + 1) [] stamps
unfolding among
tells_none stamps t u =
    record {
      under = record { long = u.long; each = λ x. omega (arith, u.each x) };
      tells = λ x h. ne_eqb _ _ (λ (e : get_or stamps x 0 ≡ t + 1). omega (arith, u.each x));
    }

module _ (stamp : ℕ) (seen stamps : List ℕ) (so : Tells stamp seen stamps) (y : ℕ) (known : y < most_types) where
  written : (x : ℕ) → x ≡ y → get_or (set stamps y stamp) x 0 ≡ stamp
  written x q = rw q (get_or-set_same stamps y stamp 0 (omega (arith, so.under.long)))

  under-by : (x : ℕ) (b : Bool) → eqb x y ≡ b → get_or (set stamps y stamp) x 0 ≤ stamp
  under-by x true e = omega (arith, written x (eqb-true x y e))
  under-by x false e = omega (arith, get_or-set_other stamps y x stamp 0 (eqb-false x y e), so.under.each x)

  tells-by : (x : ℕ) (b : Bool) → eqb x y ≡ b → x < most_types → eqb (get_or (set stamps y stamp) x 0) stamp ≡ (among x seen || b)
  tells-by x true e h = eq-eqb _ _ (written x (eqb-true x y e)) ∙ sym (or-true (among x seen))
  tells-by x false e h = rw (get_or-set_other stamps y x stamp 0 (eqb-false x y e)) (so.tells x h ∙ sym (or-false (among x seen)))

  tells-next : Tells stamp (seen ++ (y ∷ [])) (set stamps y stamp)
  tells-next =
      record {
        under = record { long = simp length-set so.under.long; each = λ x. under-by x (eqb x y) refl };
        tells = λ x h. tells-by x (eqb x y) refl h ∙ sym (among-end x y seen);
      }

-- a type and k of its n entries from i on have been looked at
module _ (w : ℕ → ℕ) (t i : ℕ) where
  pub once-first : once (t ∷ words_from w i 0) ≡ true
  unfolding once among words_from
  once-first = refl

  pub stamped-first : (stamps : List ℕ) → Under t stamps → t < most_types → Tells (t + 1) (t ∷ words_from w i 0) (set stamps t (t + 1))
  unfolding words_from
  stamped-first stamps u h = tells-next (t + 1) [] stamps (tells_none stamps t u) t h

  module _ (k : ℕ) (stamps : List ℕ) (stamp : ℕ) (so : Tells stamp (t ∷ words_from w i k) stamps) (y : ℕ) (is : y ≡ w (i + k)) (known : y < most_types) where
    pub repeated : (n : ℕ) → k < n → get_or stamps y 0 ≡ stamp → false ≡ once (t ∷ words_from w i n)
    repeated n h e =
        let m = n - (k + 1) in
        let q : n ≡ k + suc m = omega arith in
        let s : among y (t ∷ words_from w i k) ≡ true = sym (so.tells y known) ∙ eq-eqb _ _ e in
        sym (rw (words-split w i n k m q, ← is) (once-twice (t ∷ words_from w i k) (words_from w (i + k + 1) m) y s))

    grown : words_from w i (k + 1) ≡ words_from w i k ++ (y ∷ [])
    unfolding words_from
    grown = words-split w i (k + 1) k 0 (omega arith) ∙ rw (← is)

    pub stamped-next : Tells stamp (t ∷ words_from w i (k + 1)) (set stamps y stamp)
    stamped-next = rw grown (tells-next stamp (t ∷ words_from w i k) stamps so y known)

    pub once-next : (get_or stamps y 0 ≡ stamp → ⊥) → once (t ∷ words_from w i k) ≡ true → once (t ∷ words_from w i (k + 1)) ≡ true
    once-next n e = rw grown (once-end (t ∷ words_from w i k) y e (sym (so.tells y known) ∙ ne_eqb _ _ n))

-- an entry that was read has a stamp
pub entry-known : (l : List ℕ) (i n k y : ℕ) → Stamped l i n → k < n → y ≡ word_at l (i + k) → y < most_types
entry-known l i n k y s h e = omega (arith, e, s.each k h)
