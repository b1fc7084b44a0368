-- What every code obeys: what is written is read back with its exact bits, what is read is the code of its value; and what follows from
-- the two for every code at once: an accepted reading stays the same where other bits follow or the wall lies elsewhere.
use Prim.Native.Nat.{ℕ, zero, suc, ◌+◌, ◌-◌, ◌*◌, ◌^◌, ◌<◌, ◌≤◌}
use mathlib.Core.Path.{◌≡◌, refl, sym, ap, ◌∙◌}
use mathlib.Core.Bool.{Bool}
use mathlib.Core.List.{List}
use native.Mathlib.Omega.{arith}
use native.Mathlib.Decide.{dec_lt, dec_le, ℕ_discrete}
use Rattle.wire.specs.Res.{Res, got, fault, ◌>>=◌}
use Rattle.wire.specs.Bits.{num, fixed_at, digits}
use Rattle.wire.specs.At.{At}
use Rattle.wire.proofs.BitLaws.{num-lt, num-same, fixed-past, fixed_in, fixed-gives, num-digits, length_digits, at-digits, at_same}
use Rattle.wire.specs.Number.{ones_at, groups_at, second8_at, number5, number8, strict, read5, read8, code5, code8}
use Rattle.wire.proofs.Steps.{ones-past, ones-zero, ones-one, ones-full}
use Rattle.wire.proofs.Laws5.{code-read5, read-code5, number-found5, any-code-read}
use Rattle.wire.proofs.Laws8.{code-read8, read-code8}
use Rattle.wire.specs.Lawful.{Reading, Binary, Lawful}

module _ {rd : Reading} {F : ℕ → Type 0} {bits : ℕ → List ℕ} (law : Lawful rd F bits) where
  -- an accepted reading looks at no bit past the place it ends at, and at no wall past that
  pub extends : (b c : ℕ → ℕ) → Binary b → (wall wall' at v p : ℕ) → rd b wall at ≡ got (v, p) → ((i : ℕ) → at ≤ i → i < p → c i ≡ b i) → p ≤ wall' → rd c wall' at ≡ got (v, p)
  extends b c bit wall wall' at v p e s h =
      let f = (law.found b bit wall at).says (v, p) e in
      law.reads c wall' at v p f.fits (at_same s f.stands) h

  -- no code of one value begins that of another
  pub one_value : (b : ℕ → ℕ) (at v p u q : ℕ) → F v → F u → At b at (bits v) p → At b at (bits u) q → (v ≡ u) × (p ≡ q)
  one_value b at v p u q f g h k = elim (dec_le p q) [
    | yes l ↦ same (law.reads b q at v p f h l) (law.reads b q at u q g k (omega arith))
    | no l ↦ same (law.reads b p at v p f h (omega arith)) (law.reads b p at u q g k (omega arith))
  ]
    where
      same : {m : Res (ℕ × ℕ)} → m ≡ got (v, p) → m ≡ got (u, q) → (v ≡ u) × (p ≡ q)
      same x y =
          let z : ◌≡◌ {A = ℕ × ℕ} (v, p) (u, q) = cc in
          (ap (λ (r : ℕ × ℕ). r.0) z, ap (λ (r : ℕ × ℕ). r.1) z)

-- what is bound goes on alike
pub bind-same : {A B : Type 0} (m n : Res A) (f g : A → Res B) → m ≡ n → ((a : A) → n ≡ got a → f a ≡ g a) → (m >>= f) ≡ (n >>= g)
unfolding ◌>>=◌
bind-same m (got a) f g e h = rw e (h a refl)
bind-same m (fault n) f g e h = rw e

module _ (b c : ℕ → ℕ) (wall : ℕ) (s : (i : ℕ) → i < wall → b i ≡ c i) where
  pub fixed-below : (at w : ℕ) → fixed_at b wall at w ≡ fixed_at c wall at w
  fixed-below at w = elim (dec_le (at + w) wall) [
    | yes h ↦ fixed_in b wall at w h ∙ ap (λ (n : ℕ). got (n, at + w)) (num-same b c at w (λ i l k. s i (omega arith))) ∙ sym (fixed_in c wall at w h)
    | no h ↦ fixed-past b wall at w (omega arith) ∙ sym (fixed-past c wall at w (omega arith))
  ]

  ones_below : (f at k : ℕ) → ones_at f b wall at k ≡ ones_at f c wall at k
  ones_below zero at k = ones-full b wall at {f = 0} k refl ∙ sym (ones-full c wall at {f = 0} k refl)
  ones_below (suc f) at k = elim (dec_lt at wall) [
    | yes h ↦ elim (ℕ_discrete (b at) 0) [
      | yes z ↦ ones-zero b wall at (suc f) k (omega arith) h z ∙ sym (ones-zero c wall at (suc f) k (omega arith) h (sym (s at h) ∙ z))
      | no z ↦ ones-one b wall at f k refl h z ∙ ones_below f (at + 1) (k + 1) ∙ sym (ones-one c wall at f k refl h (λ w. z (s at h ∙ w)))
    ]
    | no h ↦ ones-past b wall at (suc f) k (omega arith) (omega arith) ∙ sym (ones-past c wall at (suc f) k (omega arith) (omega arith))
  ]

  pub number5-below : (at : ℕ) → number5 b wall at ≡ number5 c wall at
  unfolding number5 groups_at
  number5-below at = bind-same _ _ _ _ (ones_below 8 at 0) λ r e. bind-same _ _ _ _ (fixed-below r.1 (4 * (r.0 + 1))) λ q f. refl

  second_below : (x at : ℕ) → second8_at b wall x at ≡ second8_at c wall x at
  unfolding second8_at
  second_below x at = bind-same _ _ _ _ (fixed-below at 8) λ q f. refl

  pub number8-below : (at : ℕ) → number8 b wall at ≡ number8 c wall at
  unfolding number8
  number8-below at = bind-same _ _ _ _ (fixed-below at 8) λ r e. rw (second_below (r.0 - 128) r.1)

-- the three codes of a number
pub fixed-lawful : (w : ℕ) → Lawful (λ b wall at. fixed_at b wall at w) (λ v. v < 2 ^ w) (digits w)
fixed-lawful w = record {
  found = λ b bit wall at. record {
    says = λ r e.
        let f = (fixed-gives b wall at w).says r e in
        record { fits = omega (arith, f.0, num-lt b bit at w); stands = rw (f.0, f.1) (at-digits bit at w); within = omega (arith, f.1, f.2) };
  };
  reads = λ b wall at v p h f k.
      let l = length_digits w v in
      let n = f.next in
      let e : num b at w ≡ v = num-digits b at w v h f.there in
      let q : at + w ≡ p = omega arith in
      fixed_in b wall at w (omega arith) ∙ rw (e, q);
  below = λ b c wall at s. fixed-below b c wall s at w;
}

pub five-lawful : Lawful read5 (λ v. v < 2 ^ 32) code5
unfolding read5
five-lawful = record {
  found = λ b bit wall at. record { says = λ r e. let f = (read-code5 b bit wall at).says r e in record { fits = f.small; stands = f.stands; within = f.within } };
  reads = λ b wall at v p h f k. let n = f.next in code-read5 b wall at v h f.there (omega arith) ∙ rw (← n);
  below = λ b c wall at s. ap strict (number5-below b c wall s at);
}

pub eight-lawful : Lawful read8 (λ v. v < 2 ^ 14) code8
unfolding read8
eight-lawful = record {
  found = λ b bit wall at. record { says = λ r e. let f = (read-code8 b bit wall at).says r e in record { fits = f.small; stands = f.stands; within = f.within } };
  reads = λ b wall at v p h f k. let n = f.next in code-read8 b wall at v h f.there (omega arith) ∙ rw (← n);
  below = λ b c wall at s. ap strict (number8-below b c wall s at);
}

-- and of a vluimsbf5 that need not be in shortest form
pub number5-extends : (b c : ℕ → ℕ) → Binary b → (wall wall' at : ℕ) (r : ℕ × ℕ × Bool) → number5 b wall at ≡ got r → ((i : ℕ) → at ≤ i → i < r.1 → c i ≡ b i) → r.1 ≤ wall' → number5 c wall' at ≡ got r
number5-extends b c bit wall wall' at r e s h =
    let g = (number-found5 b bit wall at).says r e in
    let f = at_same s g.stands in
    let n = f.next in
    any-code-read c wall' at g.groups r.0 g.few g.small f.there (omega arith) ∙ rw (← n, ← g.told)
