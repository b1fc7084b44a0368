-- The line of a name: where each of the distinct names met so far has the line of its place among them, a name's line is found there, and stays its own.
use Prim.Native.Nat.{ℕ, zero, suc, ◌+◌, ◌*◌, ◌%◌, ◌≤◌, ◌<◌}
use mathlib.Core.Path.{◌≡◌, refl, sym, ap, ◌∙◌}
use mathlib.Core.Bool.{Bool, true, false, cond}
use mathlib.Core.List.{List, [], ◌∷◌, map}
use native.Mathlib.Omega.{arith}
use borrow.Author.Tests.{eq-eqb, ne_eqb, eqb-true, eqb-false}
use lib.Dec.{eqb}
use lib.ListN.{length, set, length-set}
use lib.Seq.{get_or-set_same, get_or-set_other}
use Rattle.model.specs.Model.{Event}
use Rattle.report.specs.Places.{numbers, other, first_line, lines}
use Rattle.report.specs.Report.{Sort, at, plus, named, line_from, sort_of}
use Rattle.report.specs.Report.Sort.{begins, blank, ends, inside}
use Rattle.report.specs.Sums.{Line, Lines}
use Rattle.report.specs.Owners.{noted, noted_if, notes, place_from, place_of}
use Rattle.report.proofs.Columns.{named-length}

-- the names so far have the lines in use, in order, and all lines behind are free
unfoldable pub Match : List ℕ → (n i : ℕ) → List ℕ → Type 0
Match N zero i R = Unit {0}
Match [] (suc n) i R = (at R (i + 1) ≡ 0) × Match [] n (i + 4) R
Match (y ∷ N) (suc n) i R = (at R i ≡ y) × (at R (i + 1) ≡ 0 → ⊥) × Match N n (i + 4) R

-- where a name is found it has its place
pub found : (N : List ℕ) (x n i : ℕ) (R : List ℕ) → Match N n i R → line_from R x n i ≡ place_from (noted x N) x n i
unfolding Match line_from place_from noted
found N x zero i R h = refl
found [] x (suc n) i R h = rw (eq-eqb (at R (i + 1)) 0 h.0, eq-eqb x x refl)
found (y ∷ N) x (suc n) i R h = rw (ne_eqb (at R (i + 1)) 0 h.1, h.0) (go (eqb y x) (found N x n (i + 4) R h.2))
  where
    go : (u : Bool) → line_from R x n (i + 4) ≡ place_from (noted x N) x n (i + 4) → cond u i (line_from R x n (i + 4)) ≡ cond u i (place_from (cond u N (noted x N)) x n (i + 4))
    go true e = refl
    go false e = e

-- a name that was noted, and its place, which stays
unfoldable pub has : ℕ → List ℕ → Bool
has x [] = false
has x (y ∷ N) = cond (eqb y x) true (has x N)

pub has-noted : (x : ℕ) (N : List ℕ) → has x (noted x N) ≡ true
unfolding has noted
has-noted x [] = rw (eq-eqb x x refl)
has-noted x (y ∷ N) = go (eqb y x) (has-noted x N)
  where
    go : (u : Bool) → has x (noted x N) ≡ true → cond u true (has x (cond u N (noted x N))) ≡ true
    go true e = refl
    go false e = e

has-still : (x z : ℕ) (N : List ℕ) → has x N ≡ true → has x (noted z N) ≡ true
unfolding has noted
has-still x z [] h = absurd (let e = ap (λ (u : Bool). cond {A = ℕ} u 1 0) h in omega arith)
has-still x z (y ∷ N) h = go (eqb y x) (eqb y z) h (has-still x z N)
  where
    go : (u v : Bool) → cond u true (has x N) ≡ true → (has x N ≡ true → has x (noted z N) ≡ true) → cond u true (has x (cond v N (noted z N))) ≡ true
    go true v e f = refl
    go false true e f = e
    go false false e f = f e

place-stays : (N : List ℕ) (x z n i : ℕ) → has x N ≡ true → place_from N x n i ≡ place_from (noted z N) x n i
unfolding has noted place_from
place-stays N x z zero i h = refl
place-stays [] x z (suc n) i h = absurd (let e = ap (λ (u : Bool). cond {A = ℕ} u 1 0) h in omega arith)
place-stays (y ∷ N) x z (suc n) i h = go (eqb y x) (eqb y z) h (place-stays N x z n (i + 4))
  where
    go : (u v : Bool) → cond u true (has x N) ≡ true → (has x N ≡ true → place_from N x n (i + 4) ≡ place_from (noted z N) x n (i + 4))
        → cond u i (place_from N x n (i + 4)) ≡ cond u i (place_from (cond v N (noted z N)) x n (i + 4))
    go true v e f = refl
    go false true e f = refl
    go false false e f = f e

-- F is what the names become
abbrev pub Stable : List ℕ → List ℕ → Type 0
Stable F N = (x : ℕ) → has x N ≡ true → place_of N x ≡ place_of F x

stable-noted : (F N : List ℕ) (z : ℕ) → Stable F (noted z N) → Stable F N
unfolding place_of
stable-noted F N z h x e = place-stays N x z lines first_line e ∙ h x (has-still x z N e)

stable-if : (F N : List ℕ) (s : Sort) (z : ℕ) → Stable F (noted_if s z N) → Stable F N
unfolding noted_if
stable-if F N begins z h = stable-noted F N z h
stable-if F N blank z h = stable-noted F N z h
stable-if F N ends z h = h
stable-if F N inside z h = h

pub stable-notes : (F : List ℕ) (L : List Event) (N : List ℕ) → Stable F (notes L N) → Stable F N
unfolding notes
stable-notes F [] N h = h
stable-notes F (e ∷ L) N h = stable-if F N (sort_of e.kind) e.p (stable-notes F L (noted_if (sort_of e.kind) e.p N) h)

-- a place is a line's, and none before the first asked of
place-line : (N : List ℕ) (x n i : ℕ) → first_line ≤ i → i + 4 * n ≡ numbers → Line (place_from N x n i)
unfolding place_from
place-line N x zero i h e = record { from = omega arith; to = omega arith; whole = omega arith }
place-line [] x (suc n) i h e = record { from = omega arith; to = omega arith; whole = omega arith }
place-line (y ∷ N) x (suc n) i h e = go (eqb y x) (record { from = omega arith; to = omega arith; whole = omega arith }) (place-line N x n (i + 4) (omega arith) (omega arith))
  where
    go : (u : Bool) → Line i → Line (place_from N x n (i + 4)) → Line (cond u i (place_from N x n (i + 4)))
    go true here there = here
    go false here there = there

pub place_is : (N : List ℕ) (x : ℕ) → Line (place_of N x)
unfolding place_of
place_is N x = place-line N x lines first_line (omega arith) (omega arith)

pub place-lines : (F names : List ℕ) → Lines (map (place_of F) names)
place-lines F [] = tt
place-lines F (x ∷ names) = (place_is F x, place-lines F names)

place-far : (N : List ℕ) (x n i j : ℕ) → first_line ≤ j → j < i → place_from N x n i ≡ j → ⊥
unfolding place_from
place-far N x zero i j a b e = omega arith
place-far [] x (suc n) i j a b e = omega arith
place-far (y ∷ N) x (suc n) i j a b e = go (eqb y x) e (place-far N x n (i + 4) j a (omega arith))
  where
    go : (u : Bool) → cond u i (place_from N x n (i + 4)) ≡ j → (place_from N x n (i + 4) ≡ j → ⊥) → ⊥
    go true e f = omega arith
    go false e f = f e

-- what an event does to names and times
pub record Kept (R R' : List ℕ) (j : ℕ) : Type 0 where
  pub name : at R' j ≡ at R j
  pub times : at R' (j + 1) ≡ at R (j + 1)

pub match-kept : (N : List ℕ) (n i : ℕ) (R R' : List ℕ) → i % 4 ≡ 0 → ((j : ℕ) → i ≤ j → j % 4 ≡ 0 → Kept R R' j) → Match N n i R → Match N n i R'
unfolding Match
match-kept N zero i R R' w g h = tt
match-kept [] (suc n) i R R' w g h = ((g i (omega arith) w).times ∙ h.0, match-kept [] n (i + 4) R R' (omega arith) (λ j a b. g j (omega arith) b) h.1)
match-kept (y ∷ N) (suc n) i R R' w g h =
    ((g i (omega arith) w).name ∙ h.0, λ e. h.1 (sym (g i (omega arith) w).times ∙ e), match-kept N n (i + 4) R R' (omega arith) (λ j a b. g j (omega arith) b) h.2)

pub record Noted (p x : ℕ) (R R' : List ℕ) : Type 0 where
  pub name : (p ≡ other → ⊥) → at R' p ≡ x
  pub used : (p ≡ other → ⊥) → at R' (p + 1) ≡ 0 → ⊥
  pub rest : (j : ℕ) → first_line ≤ j → j % 4 ≡ 0 → (j ≡ p → ⊥) → Kept R R' j

pub match-noted : (N : List ℕ) (x n i p : ℕ) (R R' : List ℕ) → i % 4 ≡ 0 → first_line ≤ i → Match N n i R → p ≡ place_from (noted x N) x n i → Noted p x R R' → Match (noted x N) n i R'
unfolding Match noted place_from
match-noted N x zero i p R R' w b h e c = tt
match-noted [] x (suc n) i p R R' w b h e c = go (e ∙ rw (eq-eqb x x refl) refl)
  where
    go : p ≡ i → (at R' i ≡ x) × (at R' (i + 1) ≡ 0 → ⊥) × Match [] n (i + 4) R'
    go q = (
      ap (at R') (sym q) ∙ c.name (λ z. omega arith),
      λ z. c.used (λ y. omega arith) (ap (λ (k : ℕ). at R' (k + 1)) q ∙ z),
      match-kept [] n (i + 4) R R' (omega arith) (λ j f g. c.rest j (omega arith) g (λ y. omega arith)) h.1,
    )
match-noted (y ∷ N) x (suc n) i p R R' w b h e c = go (eqb y x) refl e (λ q. match-noted N x n (i + 4) p R R' (omega arith) (omega arith) h.2 q c)
  where
    go : (u : Bool) → eqb y x ≡ u → p ≡ cond u i (place_from (cond u N (noted x N)) x n (i + 4)) → (p ≡ place_from (noted x N) x n (i + 4) → Match (noted x N) n (i + 4) R')
        → (at R' i ≡ y) × (at R' (i + 1) ≡ 0 → ⊥) × Match (cond u N (noted x N)) n (i + 4) R'
    go true z q later = (
      ap (at R') (sym q) ∙ c.name (λ z. omega arith) ∙ sym (eqb-true y x z),
      λ z. c.used (λ y. omega arith) (ap (λ (k : ℕ). at R' (k + 1)) q ∙ z),
      match-kept N n (i + 4) R R' (omega arith) (λ j f g. c.rest j (omega arith) g (λ y. omega arith)) h.2,
    )
    go false z q later =
        let k = c.rest i b w (λ y. place-far (noted x N) x n (i + 4) i b (omega arith) (sym q ∙ sym y)) in
        (k.name ∙ h.0, λ z. h.1 (sym k.times ∙ z), later q)

-- one number of a line grows: of this line, or of another
pub put-at : (k l i p v : ℕ) (R : List ℕ) → i % 4 ≡ 0 → p % 4 ≡ 0 → k < 4 → l < 4 → i + k < length R → at (plus (i + k) v R) (p + l) ≡ at R (p + l) + cond (eqb i p) (cond (eqb k l) v 0) 0
put-at k l i p v R a b c d n = go (eqb i p) (eqb k l) refl refl
  where
    go : (u w : Bool) → eqb i p ≡ u → eqb k l ≡ w → at (plus (i + k) v R) (p + l) ≡ at R (p + l) + cond u (cond w v 0) 0
    go true true e f =
        let x = eqb-true i p e in
        let y = eqb-true k l f in
        let q : p + l ≡ i + k = omega arith in
        rw q (get_or-set_same R (i + k) (at R (i + k) + v) 0 n)
    go true false e f = let x = eqb-false k l f in let y = eqb-true i p e in let z = get_or-set_other R (i + k) (p + l) (at R (i + k) + v) 0 (λ q. x (omega arith)) in omega arith
    go false w e f = let x = eqb-false i p e in let z = get_or-set_other R (i + k) (p + l) (at R (i + k) + v) 0 (λ q. x (omega arith)) in omega arith

-- a name is stored where it stands
named-at : (i x : ℕ) (R : List ℕ) (j : ℕ) → (j ≡ i → ⊥) → at (named i x R) j ≡ at R j
unfolding named
named-at i x R j h = go (eqb i other)
  where
    go : (u : Bool) → at (cond u R (set R i x)) j ≡ at R j
    go true = refl
    go false = get_or-set_other R i j x 0 h

named_here : (i x : ℕ) (R : List ℕ) → i < length R → (i ≡ other → ⊥) → at (named i x R) i ≡ x
unfolding named
named_here i x R l h = rw (ne_eqb i other h) (get_or-set_same R i x 0 l)

-- an element met: its time, its bits in the column k
module _ (k : ℕ) (low : 1 < k) (high : k < 4) (x b i : ℕ) (l : Line i) (R : List ℕ) (n : length R ≡ numbers) where
  abbrev N₁ : List ℕ
  N₁ = named i x R

  abbrev M : List ℕ
  M = plus (i + 1) 1 N₁

  n₁ : length N₁ ≡ numbers
  n₁ = named-length i x R ∙ n

  n₂ : length M ≡ numbers
  n₂ = length-set N₁ (i + 1) (at N₁ (i + 1) + 1) ∙ n₁

  pub met-noted : Noted i x R (plus (i + k) b M)
  met-noted =
      let w = l.whole in let t = l.to in let z₁ = n₁ in let z₂ = n₂ in
      record {
        name = λ o. get_or-set_other M (i + k) i (at M (i + k) + b) 0 (λ e. omega arith) ∙ get_or-set_other N₁ (i + 1) i (at N₁ (i + 1) + 1) 0 (λ e. omega arith) ∙ named_here i x R (omega arith) o;
        used = λ o e.
            let q = get_or-set_other M (i + k) (i + 1) (at M (i + k) + b) 0 (λ y. omega arith) ∙ get_or-set_same N₁ (i + 1) (at N₁ (i + 1) + 1) 0 (omega arith) in omega arith;
        rest = λ j f g h. record {
          name = get_or-set_other M (i + k) j (at M (i + k) + b) 0 (λ e. omega arith) ∙ get_or-set_other N₁ (i + 1) j (at N₁ (i + 1) + 1) 0 (λ e. omega arith) ∙ named-at i x R j h;
          times = get_or-set_other M (i + k) (j + 1) (at M (i + k) + b) 0 (λ e. omega arith) ∙ get_or-set_other N₁ (i + 1) (j + 1) (at N₁ (i + 1) + 1) 0 (λ e. h (omega arith)) ∙ named-at i x R (j + 1) (λ e. omega arith);
        };
      }

  pub met_at : (c p : ℕ) → p % 4 ≡ 0 → 0 < c → c < 4
      → at (plus (i + k) b M) (p + c) ≡ at R (p + c) + cond (eqb i p) (cond (eqb 1 c) 1 0 + cond (eqb k c) b 0) 0
  met_at c p g h j =
      let w = l.whole in let t = l.to in let z₁ = n₁ in let z₂ = n₂ in
      go (eqb i p) (put-at k c i p b M w g high j (omega arith)) (put-at 1 c i p 1 N₁ w g (omega arith) j (omega arith)) (named-at i x R (p + c) (λ e. omega arith))
    where
      go : (u : Bool) {X Y Z W : ℕ} → X ≡ Y + cond u (cond (eqb k c) b 0) 0 → Y ≡ Z + cond u (cond (eqb 1 c) 1 0) 0 → Z ≡ W → X ≡ W + cond u (cond (eqb 1 c) 1 0 + cond (eqb k c) b 0) 0
      go true e f g = omega arith
      go false e f g = omega arith
