-- Laws of `first`: tests one after another, tests that start at another place, and what a verdict tells of every test.
use Prim.Native.Nat.{ℕ, zero, suc, ◌+◌, ◌≤◌, ◌<◌}
use mathlib.Core.Path.{◌≡◌, refl, sym, ap, ◌∙◌}
use mathlib.Core.List.{List, [], ◌∷◌, ◌++◌}
use mathlib.Core.Bool.{Bool, true, false, ◌&&◌, true≢false}
use native.Mathlib.Omega.{arith}
use lib.ListN.{length, get_or}
use Rattle.std.specs.Prelude.{Ok, Err, IsErrAnd}
use Rattle.table.specs.Views.{Checked, verdict_is}
use Rattle.table.specs.declared.answers.Flaw.{Flaw}
use Rattle.table.specs.First.{Verdict, first, judge, moved, ◌then◌}
use Rattle.table.specs.First.Verdict.{right, wrong}

-- one list of tests after another
pub first-append : (i : ℕ) (xs ys : List Bool) → first i (xs ++ ys) ≡ first i xs then first (i + length xs) ys
unfolding first ◌then◌
first-append i [] ys = ap (λ (k : ℕ). first k ys) (omega arith)
first-append i (true ∷ xs) ys = first-append (suc i) xs ys ∙ ap (λ (k : ℕ). first (suc i) xs then first k ys) (omega arith)
first-append i (false ∷ xs) ys = refl

-- the same tests from another place
first-moved : (b i : ℕ) (xs : List Bool) → first (b + i) xs ≡ moved b (first i xs)
unfolding first
first-moved b i [] = refl
first-moved b i (true ∷ xs) = ap (λ (k : ℕ). first k xs) (omega arith) ∙ first-moved b (suc i) xs
first-moved b i (false ∷ xs) = refl

pub moved-first : (b : ℕ) (xs : List Bool) → moved b (first 0 xs) ≡ first b xs
moved-first b xs = sym (ap (λ (k : ℕ). first k xs) (omega arith) ∙ first-moved b 0 xs)

-- the place that is named lies within the tests
pub first_below : (i : ℕ) (xs : List Bool) (k : ℕ) → first i xs ≡ wrong k → (i ≤ k) × (k < i + length xs)
unfolding first
first_below i [] k e = let z : ◌≡◌ {A = ℕ} 0 1 = cc in absurd (omega arith)
first_below i (true ∷ xs) k e = let h = first_below (suc i) xs k e in omega arith
first_below i (false ∷ xs) k e = let h : i ≡ k = cc in omega arith

-- one test
pub judge-right : (i : ℕ) (x : Bool) → judge i x ≡ right → x ≡ true
unfolding judge
judge-right i true e = refl
judge-right i false e = let z : ◌≡◌ {A = ℕ} 0 1 = cc in absurd (omega arith)

pub judge-wrong : (i : ℕ) (x : Bool) (k : ℕ) → judge i x ≡ wrong k → x ≡ false
unfolding judge
judge-wrong i true k e = let z : ◌≡◌ {A = ℕ} 0 1 = cc in absurd (omega arith)
judge-wrong i false k e = refl

-- one verdict before another
pub then-right : (u v : Verdict) → u ≡ right → u then v ≡ v
unfolding ◌then◌
then-right u v e = ap (λ (x : Verdict). x then v) e

pub then-wrong : (u v : Verdict) (i : ℕ) → u ≡ wrong i → u then v ≡ wrong i
unfolding ◌then◌
then-wrong u v i e = ap (λ (x : Verdict). x then v) e

pub both_right : (u v : Verdict) → u then v ≡ right → (u ≡ right) × (v ≡ right)
unfolding ◌then◌
both_right right v e = (refl, e)
both_right (wrong i) v e = let z : ◌≡◌ {A = ℕ} 0 1 = cc in absurd (omega arith)

-- what `?` gives back is the fault that it was given
pub told : (q : Checked) (k : Flaw) (v : Verdict) → IsErrAnd q (λ j. j ≡ k) → wrong k.0 ≡ v → verdict_is q ≡ v
told (Ok u) k v h e = absurd h
told (Err j) k v h e = ap (λ (f : Flaw). wrong f.0) h ∙ e

-- Right: every test holds.
abbrev pub Every : List Bool → Type 0
Every [] = Unit {0}
Every (x ∷ xs) = (x ≡ true) × Every xs

pub right-every : (i : ℕ) (xs : List Bool) → first i xs ≡ right → Every xs
unfolding first
right-every i [] e = tt
right-every i (true ∷ xs) e = (refl, right-every (suc i) xs e)
right-every i (false ∷ xs) e = let z : ◌≡◌ {A = ℕ} 0 1 = cc in absurd (omega arith)

pub every_append : (xs ys : List Bool) → Every (xs ++ ys) → Every xs × Every ys
every_append [] ys h = (tt, h)
every_append (x ∷ xs) ys h = let r = every_append xs ys h.1 in ((h.0, r.0), r.1)

pub every-at : (xs : List Bool) → Every xs → (j : ℕ) → get_or xs j true ≡ true
every-at [] h j = refl
every-at (x ∷ xs) h zero = h.0
every-at (x ∷ xs) h (suc j) = every-at xs h.1 j

-- two tests joined
pub both_true : (x y : Bool) → (x && y) ≡ true → (x ≡ true) × (y ≡ true)
both_true true y e = (refl, e)
both_true false y e = absurd (true≢false (sym e))

-- Wrong: the test at that place, the j-th, fails, and each before it holds.
pub record Fails (i : ℕ) (xs : List Bool) (k j : ℕ) : Type 0 where
  pub place : k ≡ i + j
  pub inside : j < length xs
  pub fails : get_or xs j true ≡ false
  pub before : (m : ℕ) → m < j → get_or xs m true ≡ true

pub wrong-fails : (i : ℕ) (xs : List Bool) (k : ℕ) → first i xs ≡ wrong k → (j : ℕ) × Fails i xs k j
unfolding first
wrong-fails i [] k e = let z : ◌≡◌ {A = ℕ} 0 1 = cc in absurd (omega arith)
wrong-fails i (true ∷ xs) k e = later (wrong-fails (suc i) xs k e)
  where
    later : (j : ℕ) × Fails (suc i) xs k j → (j : ℕ) × Fails i (true ∷ xs) k j
    later f = (
      suc f.0,
      record {
        place = omega (arith, f.1.place);
        inside = omega (arith, f.1.inside);
        fails = f.1.fails;
        before = elim [ zero ↦ λ h. refl | suc m ↦ λ h. f.1.before m (omega arith) ];
      },
    )
wrong-fails i (false ∷ xs) k e =
    let h : i ≡ k = cc in
    (0, record { place = omega arith; inside = omega arith; fails = refl; before = λ m g. absurd (omega arith) })
