-- The sums made number by number are the sums, where no number passes; and where one passes in between, one has passed in the end: numbers only grow,
-- but for names, which fit.
use Prim.Native.Nat.{ℕ, zero, suc, ◌+◌, ◌-◌, ◌*◌, ◌%◌, ◌≤◌, ◌<◌}
use mathlib.Core.Path.{◌≡◌, refl, ◌∙◌}
use mathlib.Core.Bool.{Bool, true, false, cond}
use mathlib.Core.List.{List, [], ◌∷◌}
use native.Mathlib.Omega.{arith}
use borrow.Author.Tests.{lt-ltb, le-ltb, ltb-true, ltb-false, eqb-false}
use lib.Dec.{eqb, ltb}
use lib.ListN.{length, set, length-set}
use lib.Seq.{get_or-set_same, get_or-set_other}
use Rattle.model.specs.Model.{Event}
use Rattle.report.specs.Places.{numbers, limit, other, first_line, lines, seen, own, blanked, answered, mode_bits, padding_bits}
use Rattle.report.specs.Report.{Sort, at, plus, line_from, line_of, named, sort_of, innermost, line_for, bits_to, met, open_after, counted, counted_then, counts, accepts, fits}
use Rattle.report.specs.Report.Sort.{begins, blank, ends, inside}
use Rattle.report.specs.Sums.{Sum, within, passed, and_then, put, met_in, counted_in, counted_then_in, counts_in, accepts_in, Line, Lines}
use Rattle.report.proofs.Ways.{lines_after}

unfoldable pub settle : List ℕ → Sum
settle R = cond (fits R) (within R) passed

abbrev pub Fits : List ℕ → Type 0
Fits R = (i : ℕ) → at R i < limit

pub fits-true : (R : List ℕ) → Fits R → fits R ≡ true
unfolding fits
fits-true [] h = refl
fits-true (x ∷ R) h = rw (lt-ltb x limit (h 0)) (fits-true R (λ i. h (suc i)))

pub fits-false : (R : List ℕ) (i : ℕ) → limit ≤ at R i → fits R ≡ false
unfolding fits
fits-false [] i h = absurd (omega arith)
fits-false (x ∷ R) zero h = rw (le-ltb x limit h)
fits-false (x ∷ R) (suc i) h = go (ltb x limit) (fits-false R i h)
  where
    go : (u : Bool) → fits R ≡ false → cond u (fits R) false ≡ false
    go true e = e
    go false e = refl

pub fits-set : (R : List ℕ) (i v : ℕ) → Fits R → v < limit → Fits (set R i v)
fits-set [] i v k h j = k j
fits-set (x ∷ R) zero v k h zero = h
fits-set (x ∷ R) zero v k h (suc j) = k (suc j)
fits-set (x ∷ R) (suc i) v k h zero = k 0
fits-set (x ∷ R) (suc i) v k h (suc j) = fits-set R i v (λ m. k (suc m)) h j

-- the numbers that only grow: all but the names of lines
abbrev pub Grows : ℕ → Type 0
Grows j = j % 4 ≡ 0 → j < first_line

set-grows : (R : List ℕ) (i j v : ℕ) → at R i ≤ v → at R j ≤ at (set R i v) j
set-grows [] i j v h = omega arith
set-grows (x ∷ R) zero zero v h = h
set-grows (x ∷ R) zero (suc j) v h = omega arith
set-grows (x ∷ R) (suc i) zero v h = omega arith
set-grows (x ∷ R) (suc i) (suc j) v h = set-grows R i j v h

plus-grows : (i n : ℕ) (R : List ℕ) (j : ℕ) → at R j ≤ at (plus i n R) j
plus-grows i n R j = set-grows R i j (at R i + n) (omega arith)

named-grows : (i name : ℕ) (R : List ℕ) (j : ℕ) → Line i → Grows j → at R j ≤ at (named i name R) j
unfolding named
named-grows i name R j l g = go (eqb i other) refl
  where
    go : (u : Bool) → eqb i other ≡ u → at R j ≤ at (cond u R (set R i name)) j
    go true e = omega arith
    go false e =
        let n = eqb-false i other e in
        let f = get_or-set_other R i j name 0 (λ q. n (absurd (let a : j % 4 ≡ 0 = rw q l.whole in let b = g a in let c = l.from in let d = l.whole in omega arith))) in
        omega arith

met-grows : (s : Sort) (name i : ℕ) (R : List ℕ) (j : ℕ) → Line i → Grows j → at R j ≤ at (met s name i R) j
unfolding met
met-grows begins name i R j l g = let a = named-grows i name R j l g in let b = plus-grows (seen i) 1 (named i name R) j in omega arith
met-grows blank name i R j l g = let a = named-grows i name R j l g in let b = plus-grows (seen i) 1 (named i name R) j in omega arith
met-grows ends name i R j l g = omega arith
met-grows inside name i R j l g = omega arith

counted-grows : (s : Sort) (name bits i : ℕ) (R : List ℕ) (j : ℕ) → Line i → Grows j → at R j ≤ at (counted s name bits i R) j
unfolding counted
counted-grows s name bits i R j l g =
    let a = met-grows s name i R j l g in let b = plus-grows (bits_to s i) bits (met s name i R) j in omega arith

-- what is found is a line
found-line : (R : List ℕ) (name n i : ℕ) → first_line ≤ i → i + 4 * n ≡ numbers → Line (line_from R name n i)
unfolding line_from
found-line R name zero i h e = record { from = omega arith; to = omega arith; whole = omega arith }
found-line R name (suc n) i h e = go (eqb (at R (seen i)) 0) (eqb (at R i) name) (record { from = omega arith; to = omega arith; whole = omega arith }) (found-line R name n (i + 4) (omega arith) (omega arith))
  where
    go : (u v : Bool) → Line i → Line (line_from R name n (i + 4)) → Line (cond u i (cond v i (line_from R name n (i + 4))))
    go true v here there = here
    go false true here there = here
    go false false here there = there

pub line-is : (R : List ℕ) (name : ℕ) → Line (line_of R name)
unfolding line_of
line-is R name = found-line R name lines first_line (omega arith) (omega arith)

other-line : Line other
other-line = record { from = omega arith; to = omega arith; whole = omega arith }

pub for-line : (s : Sort) (name : ℕ) (stack R : List ℕ) → Lines stack → Line (line_for s name stack R)
unfolding line_for innermost
for-line begins name stack R h = line-is R name
for-line blank name stack R h = line-is R name
for-line ends name [] R h = other-line
for-line ends name (i ∷ stack) R h = h.0
for-line inside name [] R h = other-line
for-line inside name (i ∷ stack) R h = h.0

pub counts-grows : (L : List Event) (stack R : List ℕ) (j : ℕ) → Lines stack → Grows j → at R j ≤ at (counts L stack R) j
unfolding counts counted_then
counts-grows [] stack R j h g = omega arith
counts-grows (e ∷ L) stack R j h g =
    let s = sort_of e.kind in
    let i = line_for s e.p stack R in
    let l = for-line s e.p stack R h in
    let a = counted-grows s e.p e.bits i R j l g in
    let b = counts-grows L (open_after s i stack) (counted s e.p e.bits i R) j (lines_after s i stack l h) g in
    omega arith

-- a sum and what comes then
module _ (i n : ℕ) (R : List ℕ) (k : List ℕ → Sum) (f : List ℕ → List ℕ) where
  put_then : Fits R → i < length R → (Fits (plus i n R) → k (plus i n R) ≡ settle (f (plus i n R))) → at (plus i n R) i ≤ at (f (plus i n R)) i → and_then (put i n R) k ≡ settle (f (plus i n R))
  unfolding put and_then settle
  put_then h l c g = go (ltb (at R i + n) limit) refl
    where
      go : (u : Bool) → ltb (at R i + n) limit ≡ u → and_then (cond u (within (plus i n R)) passed) k ≡ settle (f (plus i n R))
      go true e = c (fits-set R i (at R i + n) h (ltb-true (at R i + n) limit e))
      go false e =
          let a = ltb-false (at R i + n) limit e in
          let b = get_or-set_same R i (at R i + n) 0 l in
          rw (fits-false (f (plus i n R)) i (omega arith))

then-then : (a : Sum) (k l : List ℕ → Sum) → and_then (and_then a k) l ≡ and_then a (λ R. and_then (k R) l)
unfolding and_then
then-then (within R) k l = refl
then-then passed k l = refl

-- names fit
abbrev pub Names : List Event → Type 0
Names [] = Unit {0}
Names (e ∷ L) = (e.p < limit) × Names L

named-fits : (i name : ℕ) (R : List ℕ) → Fits R → name < limit → Fits (named i name R)
unfolding named
named-fits i name R h k = go (eqb i other)
  where
    go : (u : Bool) → Fits (cond u R (set R i name))
    go true = h
    go false = fits-set R i name h k

named-length : (i name : ℕ) (R : List ℕ) → length (named i name R) ≡ length R
unfolding named
named-length i name R = go (eqb i other)
  where
    go : (u : Bool) → length (cond u R (set R i name)) ≡ length R
    go true = refl
    go false = length-set R i name

own-grows : (i : ℕ) → Line i → (k : ℕ) → 0 < k → k < 4 → Grows (i + k)
own-grows i l k a b e = absurd (let w = l.whole in omega arith)

-- an event and then the rest, where the rest is right
module _ (name bits i : ℕ) (l : Line i) (k : List ℕ → Sum) (f : List ℕ → List ℕ) (right : (R : List ℕ) → Fits R → length R ≡ numbers → k R ≡ settle (f R))
    (grows : (R : List ℕ) (j : ℕ) → Grows j → at R j ≤ at (f R) j) where
  bits-then : (p : ℕ) (R : List ℕ) → Grows p → p < numbers → Fits R → length R ≡ numbers → and_then (put p bits R) k ≡ settle (f (plus p bits R))
  bits-then p R g b h n =
      put_then p bits R k f h (omega arith) (λ z. right (plus p bits R) z (length-set R p (at R p + bits) ∙ n)) (grows (plus p bits R) p g)

  seen-then : (p : ℕ) (R : List ℕ) → Grows p → p < numbers → name < limit → Fits R → length R ≡ numbers
      → and_then (and_then (put (seen i) 1 (named i name R)) (put p bits)) k ≡ settle (f (plus p bits (plus (seen i) 1 (named i name R))))
  seen-then p R g b m h n =
      let N = named i name R in
      let to = l.to in
      let e : length N ≡ numbers = named-length i name R ∙ n in
      then-then (put (seen i) 1 N) (put p bits) k
      ∙ put_then (seen i) 1 N (λ (X : List ℕ). and_then (put p bits X) k) (λ (X : List ℕ). f (plus p bits X)) (named-fits i name R h m) (omega arith)
      (λ z. bits-then p (plus (seen i) 1 N) g b z (length-set N (seen i) (at N (seen i) + 1) ∙ e))
      (let x = plus-grows p bits (plus (seen i) 1 N) (seen i) in let y = grows (plus p bits (plus (seen i) 1 N)) (seen i) (own-grows i l 1 (omega arith) (omega arith)) in omega arith)

  event-then : (s : Sort) (R : List ℕ) → name < limit → Fits R → length R ≡ numbers → and_then (counted_in s name bits i R) k ≡ settle (f (counted s name bits i R))
  unfolding counted_in counted met_in met bits_to and_then
  event-then begins R m h n = let to = l.to in seen-then (own i) R (own-grows i l 2 (omega arith) (omega arith)) (omega arith) m h n
  event-then blank R m h n = let to = l.to in seen-then (blanked i) R (own-grows i l 3 (omega arith) (omega arith)) (omega arith) m h n
  event-then ends R m h n = let to = l.to in bits-then (own i) R (own-grows i l 2 (omega arith) (omega arith)) (omega arith) h n
  event-then inside R m h n = let to = l.to in bits-then (own i) R (own-grows i l 2 (omega arith) (omega arith)) (omega arith) h n

pub counts-settle : (L : List Event) (stack R : List ℕ) → Names L → Lines stack → Fits R → length R ≡ numbers → counts_in L stack R ≡ settle (counts L stack R)
unfolding counts_in counts counted_then_in counted_then settle
counts-settle [] stack R m t h n = rw (fits-true R h)
counts-settle (e ∷ L) stack R m t h n =
    let s = sort_of e.kind in
    let i = line_for s e.p stack R in
    let l = for-line s e.p stack R t in
    let after = lines_after s i stack l t in
    event-then e.p e.bits i l (counts_in L (open_after s i stack)) (counts L (open_after s i stack)) (λ X a b. counts-settle L (open_after s i stack) X m.1 after a b)
    (λ X j g. counts-grows L (open_after s i stack) X j after g) s R m.0 h n

-- of an accepted payload
pub accepts-settle : (bytes bits : ℕ) (L : List Event) (R : List ℕ) → Names L → Fits R → length R ≡ numbers → accepts_in bytes bits L R ≡ settle (accepts bytes bits L R)
unfolding accepts_in accepts
accepts-settle bytes bits L R m h n =
    let f₄ : List ℕ → List ℕ = counts L [] in
    let f₃ : List ℕ → List ℕ = λ X. f₄ (plus answered 1 X) in
    let f₂ : List ℕ → List ℕ = λ X. f₃ (plus padding_bits (8 * bytes - bits) X) in
    let f₁ : List ℕ → List ℕ = λ X. f₂ (plus mode_bits 8 X) in
    let g₄ : (X : List ℕ) (j : ℕ) → Grows j → at X j ≤ at (counts L [] X) j = λ X j g. counts-grows L [] X j tt g in
    head-then 1 (8 * bytes) R (λ X. and_then (put mode_bits 8 X) _) f₁ h n (omega arith)
    (λ X a b. head-then 2 8 X (λ Y. and_then (put padding_bits (8 * bytes - bits) Y) _) f₂ a b (omega arith)
    (λ Y c d. head-then 3 (8 * bytes - bits) Y (λ Z. and_then (put answered 1 Z) (counts_in L [])) f₃ c d (omega arith)
    (λ Z u v. head-then 4 1 Z (counts_in L []) f₄ u v (omega arith) (λ W y z. counts-settle L [] W m tt y z) (λ W j q g. g₄ W j g)) (λ Z j q g. let a = plus-grows answered 1 Z j in let b = g₄ (plus answered 1 Z) j g in omega arith))
    (λ Y j q g. let a = plus-grows padding_bits (8 * bytes - bits) Y j in let b = plus-grows answered 1 (plus padding_bits (8 * bytes - bits) Y) j in let c = g₄ (plus answered 1 (plus padding_bits (8 * bytes - bits) Y)) j g in omega arith))
    (λ X j q g. let a = plus-grows mode_bits 8 X j in let b = plus-grows padding_bits (8 * bytes - bits) (plus mode_bits 8 X) j in let c = plus-grows answered 1 (plus padding_bits (8 * bytes - bits) (plus mode_bits 8 X)) j in
    let d = g₄ (plus answered 1 (plus padding_bits (8 * bytes - bits) (plus mode_bits 8 X))) j g in omega arith)
  where
    head-then : (p v : ℕ) (R : List ℕ) (k : List ℕ → Sum) (f : List ℕ → List ℕ) → Fits R → length R ≡ numbers → p < 5
        → ((X : List ℕ) → Fits X → length X ≡ numbers → k X ≡ settle (f X)) → ((X : List ℕ) (j : ℕ) → j < 5 → Grows j → at X j ≤ at (f X) j) → and_then (put p v R) k ≡ settle (f (plus p v R))
    head-then p v R k f h n b right grows =
        put_then p v R k f h (omega arith) (λ z. right (plus p v R) z (length-set R p (at R p + v) ∙ n)) (grows (plus p v R) p b (λ e. omega arith))
