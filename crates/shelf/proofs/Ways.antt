-- The ways through the functions that judge.
use Rattle.std.proofs.Common.{◌≡◌, ℕ, zero, suc, ◌+◌, ◌-◌, ◌*◌, ◌/◌, ◌<◌, ◌≤◌, Bool, true, false, cond, eqb, ltb, List, get_or, sym, refl, ap, ◌∙◌, arith, ltb-false, eq-eqb, ne_eqb}
use mathlib.Core.Bool.{false≢true}
use Rattle.buffers.specs.Bytes.{half_from}
use borrow.Author.Tests.{eqb-false}
use Rattle.std.specs.Prelude.{Result, Ok, Err}
use Rattle.shelf.specs.declared.answers.Reached.{Reached}
use Rattle.shelf.specs.Answers.{To, walk_of, Sound, Faulty}
use Rattle.shelf.specs.Stream.{walk, judged, fault}
use Rattle.shelf.proofs.Walks.{walk-stop, stopped, walked-so}
use Rattle.shelf.specs.Judge.{zeros_from, last, used_at, some_used, rest_zero}

-- at most 498 bytes are used where `some_used`
pub record Used (u : ℕ) : Type 0 where
  pub some : 0 < u
  pub most : u ≤ 498

used_by : (u : ℕ) (l a b : Bool) → eqb u 0 ≡ a → ltb 498 u ≡ b → cond a false (cond b false (cond (eqb u 498) true l)) ≡ true → Used u
used_by u l true b p q e = absurd (false≢true e)
used_by u l false true p q e = absurd (false≢true e)
used_by u l false false p q e = let n : u ≡ 0 → ⊥ = eqb-false u 0 p in record { some = omega arith; most = ltb-false 498 u q }

pub used-so : (f : List ℕ) (i : ℕ) → some_used f i ≡ true → Used (used_at f i)
unfolding some_used
used-so f i e = used_by (used_at f i) (last f i) (eqb (used_at f i) 0) (ltb 498 (used_at f i)) refl refl e

-- what is not used
pub rest-is : (f : List ℕ) (i : ℕ) {u : ℕ} {r : Bool} → u ≡ used_at f i → r ≡ zeros_from f (512 * i + 8 + u) (500 - u) → r ≡ rest_zero f i
unfolding rest_zero
rest-is f i e g = rw e at g

pub rest-full : (f : List ℕ) (i : ℕ) {u h : ℕ} → u ≡ used_at f i → u ≡ 498 → h ≡ half_from f (512 * i + 506) → eqb h 0 ≡ rest_zero f i
unfolding rest_zero zeros_from
rest-full f i e g k =
    let z : used_at f i ≡ 498 = sym e ∙ g in
    let y : 512 * i + 8 + 498 ≡ 512 * i + 506 = omega arith in
    rw (z, y, k) (pair (get_or f (512 * i + 506) 0) (get_or f (512 * i + 506 + 1) 0))
  where
    pair : (a b : ℕ) → eqb (a * 256 + b) 0 ≡ cond (eqb a 0) (cond (eqb b 0) true false) false
    pair zero zero = refl
    pair zero (suc b) = simp (ne_eqb (0 * 256 + suc b) 0 (λ (n : 0 * 256 + suc b ≡ 0). omega arith), ne_eqb (suc b) 0 (λ (n : suc b ≡ 0). omega arith))
    pair (suc a) b = simp (ne_eqb (suc a * 256 + b) 0 (λ (n : suc a * 256 + b ≡ 0). omega arith), ne_eqb (suc a) 0 (λ (n : suc a ≡ 0). omega arith))

pub used-most : (f : List ℕ) (i : ℕ) {u : Bool} → u ≡ some_used f i → u ≡ true → used_at f i ≤ 498
used-most f i e g = (used-so f i (sym e ∙ g)).most

-- a stream judged
module _ (b : ℕ → ℕ) (n : ℕ) where
  pub sound_none : n ≡ 0 → Sound 0 ≡ fault b n
  unfolding fault judged
  sound_none e = rw (e, walk-stop b 0 0 0 (omega arith))

  module _ {w : Result Reached ℕ} (e : walk_of w ≡ walk b n 0 0) where
    pub sound-over : {p : ℕ} → w ≡ Err p → Faulty ((p + 1) / 498) ≡ fault b n
    unfolding fault judged
    sound-over g = rw (sym e ∙ ap walk_of g)

    pub over_below : {p : ℕ} → w ≡ Err p → p + 1 < n
    over_below g = (stopped (walked-so (sym e ∙ ap walk_of g))).before

    module _ {r : Reached} (g : w ≡ Ok r) where
      to : walk b n 0 0 ≡ To r.place r.count
      to = sym e ∙ ap walk_of g

      pub some-cut : (r.place ≡ n → ⊥) → 0 < n
      some-cut h = by n refl
        where
          by : (k : ℕ) → n ≡ k → 0 < n
          by zero z = let y : To r.place r.count ≡ To 0 0 = sym to ∙ walk-stop b n 0 0 (omega arith) in let o : r.place ≡ 0 = cc in absurd (h (omega arith))
          by (suc k) z = omega arith

      pub sound-to : r.place ≡ n → Sound r.count ≡ fault b n
      unfolding fault judged
      sound-to h = rw to (simp (eq-eqb r.place n h))

      pub sound-cut : (r.place ≡ n → ⊥) → Faulty ((n - 1) / 498) ≡ fault b n
      unfolding fault judged
      sound-cut h = rw to (simp (ne_eqb r.place n h))

pub ruleset judge-ways = (rest-is, rest-full, sound_none, sound-over, sound-to, sound-cut)
