-- The ways through what adds: the bytes that a report is left with.
use Prim.Native.Nat.{ℕ, zero, suc, ◌+◌, ◌*◌, ◌≤◌, ◌<◌}
use mathlib.Core.Path.{◌≡◌, refl, sym, ap, ◌∙◌}
use mathlib.Core.Bool.{Bool, true, false, cond}
use mathlib.Core.List.{List, []}
use Rattle.std.specs.Prelude.{Option, Some, None}
use native.Mathlib.Omega.{arith}
use borrow.Author.Tests.{lt-ltb, le-ltb, eq-eqb, ne_eqb}
use lib.ListN.{length, get_or, set, drop}
use lib.Seq.{get_or-set_same, get_or-drop}
use Rattle.numbers.specs.declared.refusal.Refusal.{Refusal}
use Rattle.numbers.specs.Refused.{number_of}
use Rattle.numbers.proofs.Refusals.{number-some}
use Rattle.model.specs.Model.{Event}
use Rattle.report.specs.Eights.{numbers_of, bytes_of}
use Rattle.report.specs.Places.{numbers, report_bytes, limit, answered, answers}
use Rattle.report.specs.Report.{at, plus, accepts, refuses, sums, fits, settled, adds}
use Rattle.report.specs.Sums.{within, passed, accepts_in, numbers_in, sum_of, events_in, Octets}
use Rattle.report.proofs.EightLaws.{whole_back, numbers-length}
use Rattle.report.proofs.Passing.{settle, Fits, fits-true, fits-false, fits-set, Names, accepts-settle}

-- numbers of 8 bytes fit
pub numbers_fit : (n : ℕ) (s : List ℕ) → Octets s → Fits (numbers_of n s)
unfolding numbers_of
numbers_fit zero s k i = omega arith
numbers_fit (suc n) s k zero = let a = k 0 in let b = k 1 in let c = k 2 in let d = k 3 in let e = k 4 in let f = k 5 in let g = k 6 in let h = k 7 in omega arith
numbers_fit (suc n) s k (suc i) = numbers_fit n (drop 8 s) (λ j. let e = get_or-drop 8 s j 0 in let h = k (8 + j) in omega arith) i

-- what is settled, by what was summed
settled-sum : (R X Y : List ℕ) → within X ≡ settle Y → settled R Y ≡ X
unfolding settle settled
settled-sum R X Y e = go (fits Y) e
  where
    go : (u : Bool) → within X ≡ cond u (within Y) passed → cond u Y (set R 0 1) ≡ X
    go true f = cc
    go false f = absurd (let z : ◌≡◌ {A = ℕ} 0 1 = cc in omega arith)

settled-passed : (R Y : List ℕ) → passed ≡ settle Y → settled R Y ≡ set R 0 1
unfolding settle settled
settled-passed R Y e = go (fits Y) e
  where
    go : (u : Bool) → passed ≡ cond u (within Y) passed → cond u Y (set R 0 1) ≡ set R 0 1
    go true f = absurd (let z : ◌≡◌ {A = ℕ} 0 1 = cc in omega arith)
    go false f = refl

going : (number bytes bits : ℕ) (L : List Event) (R : List ℕ) → at R 0 ≡ 0 → adds number bytes bits L R ≡ settled R (sums number bytes bits L R)
unfolding adds
going number bytes bits L R z = rw (eq-eqb (at R 0) 0 z)

pub stays-stopped : (number bytes bits : ℕ) (L : List Event) (R : List ℕ) (was : ℕ) → was ≡ at R 0 → (was ≡ 0 → ⊥) → R ≡ adds number bytes bits L R
unfolding adds
stays-stopped number bytes bits L R was e z = rw (ne_eqb (at R 0) 0 (λ q. z (e ∙ q)))

pub names-fit : (w : List ℕ) → ((k : ℕ) → get_or w k 0 < limit) → (i n : ℕ) → Names (events_in w i n)
unfolding events_in
names-fit w h i zero = tt
names-fit w h i (suc n) = (h (4 * i + 1), names-fit w h (i + 1) n)

module _ (s : List ℕ) (octets : Octets s) (goes : at (numbers_in s) 0 ≡ 0) where
  -- an accepted payload: u is what the sums left
  module _ (bytes bits : ℕ) (L : List Event) (fit : Names L) (u : List ℕ) (ok : Option (Unit {0})) (sum : sum_of ok u ≡ accepts_in bytes bits L (numbers_in s)) where
    same : sum_of ok u ≡ settle (accepts bytes bits L (numbers_in s))
    same = sum ∙ accepts-settle bytes bits L (numbers_in s) fit (numbers_fit numbers s octets) (numbers-length numbers s)

    pub accepted-goes : (x : Unit {0}) → ok ≡ Some x → numbers_in u ≡ adds 0 bytes bits L (numbers_in s)
    unfolding sums
    accepted-goes x e = sym (going 0 bytes bits L (numbers_in s) goes ∙ settled-sum (numbers_in s) (numbers_in u) (accepts bytes bits L (numbers_in s)) (rw e at same))

    pub accepted-stops : (R : List ℕ) → ok ≡ None → R ≡ set (numbers_in s) 0 1 → R ≡ adds 0 bytes bits L (numbers_in s)
    unfolding sums
    accepted-stops R e f = f ∙ sym (going 0 bytes bits L (numbers_in s) goes ∙ settled-passed (numbers_in s) (accepts bytes bits L (numbers_in s)) (rw e at same))

  -- a refused one
  module _ (answer : ℕ) (refused : 0 < answer) (bytes bits : ℕ) (L : List Event) where
    R : List ℕ
    R = numbers_in s

    placed : answer < answers → adds answer bytes bits L R ≡ settled R (plus (answered + answer) 1 R)
    unfolding R sums refuses
    placed h = going answer bytes bits L (numbers_in s) goes ∙ go answer refused h
      where
        go : (k : ℕ) → 0 < k → k < answers → settled (numbers_in s) (sums k bytes bits L (numbers_in s)) ≡ settled (numbers_in s) (plus (answered + k) 1 (numbers_in s))
        go zero a b = absurd (omega arith)
        go (suc k) a b = rw (lt-ltb (suc k) answers b)

    pub refused-stops : (was : ℕ) (X : List ℕ) → answer < answers → was ≡ at (numbers_in s) (answered + answer) → limit ≤ was + 1 → X ≡ set (numbers_in s) 0 1 → X ≡ adds answer bytes bits L (numbers_in s)
    unfolding R settled
    refused-stops was X h e m f =
        let n = numbers-length numbers s in
        let g = get_or-set_same R (answered + answer) (at R (answered + answer) + 1) 0 (omega arith) in
        f ∙ sym (placed h ∙ rw (fits-false (plus (answered + answer) 1 R) (answered + answer) (omega arith)))

    pub refused-counts : (was sum : ℕ) (X : List ℕ) → answer < answers → was ≡ at (numbers_in s) (answered + answer) → was + 1 < limit → sum ≡ was + 1 → X ≡ set (numbers_in s) (answered + answer) sum
        → X ≡ adds answer bytes bits L (numbers_in s)
    unfolding R settled
    refused-counts was sum X h e m g f =
        f ∙ ap (λ (x : ℕ). set R (answered + answer) x) (g ∙ ap (λ (x : ℕ). x + 1) e)
        ∙ sym (placed h ∙ rw (fits-true (plus (answered + answer) 1 R) (fits-set R (answered + answer) (at R (answered + answer) + 1) (numbers_fit numbers s octets) (omega arith))))

    -- an answer of 64 or more is counted nowhere, and changes nothing
    pub refused-nowhere : length s ≡ report_bytes → answers ≤ answer → s ≡ bytes_of (adds answer bytes bits L (numbers_in s))
    unfolding R settled sums refuses
    refused-nowhere size h = whole_back s size octets ∙ ap bytes_of (sym (going answer bytes bits L R goes ∙ go answer refused h))
      where
        go : (k : ℕ) → 0 < k → answers ≤ k → settled R (sums k bytes bits L R) ≡ R
        go zero a b = absurd (omega arith)
        go (suc k) a b = rw (le-ltb (suc k) answers b, fits-true R (numbers_fit numbers s octets))

-- a refusal has a place, behind that of what was accepted
pub refusal-some : (e : Refusal) → 0 < number_of e
refusal-some e = grind (arith, number-some)

pub refusal-placed : (e : Refusal) → number_of e < answers
refusal-placed e = grind arith

-- the ways of the whole, from a report s to its bytes r
module _ (answer bytes bits : ℕ) (L : List Event) (s r : List ℕ) (size : length r ≡ report_bytes) (octets : Octets r) where
  pub whole-stays : numbers_in r ≡ adds answer bytes bits L (numbers_in s) → r ≡ bytes_of (adds answer bytes bits L (numbers_in s))
  whole-stays e = whole_back r size octets ∙ ap bytes_of e

  pub whole-refused : (answer ≡ 0 → ⊥) → numbers_in r ≡ adds answer 0 0 [] (numbers_in s) → r ≡ bytes_of (adds answer bytes bits L (numbers_in s))
  unfolding adds sums
  whole-refused n f = whole-stays (go answer n f)
    where
      go : (k : ℕ) → (k ≡ 0 → ⊥) → numbers_in r ≡ adds k 0 0 [] (numbers_in s) → numbers_in r ≡ adds k bytes bits L (numbers_in s)
      go zero n f = absurd (n refl)
      go (suc k) n f = f
