-- Laws of bits at places: a run of bits is its parts; the bits of a number are read as it, and what is read are its bits.
use Prim.Native.Nat.{ℕ, zero, suc, ◌+◌, ◌*◌, ◌/◌, ◌%◌, ◌^◌, ◌<◌, ◌≤◌}
use mathlib.Core.Path.{◌≡◌, refl, subst, ◌∙◌}
use mathlib.Core.List.{List, [], ◌∷◌, ◌++◌}
use native.Mathlib.Nat.{add-zero, lt_of_lt_of_le}
use native.Mathlib.Numerals.{add-one}
use native.Mathlib.Omega.{arith}
use native.Mathlib.Decide.{dec_le}
use borrow.Author.Tests.{le-leb, lt-leb}
use lib.ListN.{length, length-append}
use lib.Pow.{pow_mono}
use Rattle.numbers.specs.Refusal.{past_end}
use Rattle.wire.specs.Res.{got, fault, Ensures}
use Rattle.wire.proofs.Res.{gives, stops}
use Rattle.wire.specs.Bits.{bit_at, num, fixed_at, digits, Has}
use Rattle.wire.specs.At.{At}

pub bit-lt : (s : List ℕ) (i : ℕ) → bit_at s i < 2
unfolding bit_at
bit-lt s i = omega arith

pub num-more : (b : ℕ → ℕ) (at w : ℕ) → num b at (w + 1) ≡ num b at w * 2 + b (at + w)
unfolding num
num-more b at w = rw add-one

module _ (b : ℕ → ℕ) (bits : (i : ℕ) → b i < 2) where
  pub num-lt : (at w : ℕ) → num b at w < 2 ^ w
  unfolding num
  num-lt at zero = omega arith
  num-lt at (suc w) = omega (arith, num-lt at w, bits (at + w))

  pub num-under : (at : ℕ) {w k : ℕ} → w ≤ k → num b at w < 2 ^ k
  num-under at {w} h = lt_of_lt_of_le (num-lt at w) (pow_mono h)

-- a number looks at its own bits alone
pub num-same : (b c : ℕ → ℕ) (at w : ℕ) → ((i : ℕ) → at ≤ i → i < at + w → b i ≡ c i) → num b at w ≡ num c at w
unfolding num
num-same b c at zero h = refl
num-same b c at (suc w) h =
    let e = num-same b c at w (λ i l k. h i l (omega arith)) in
    let f = h (at + w) (omega arith) (omega arith) in
    omega arith

-- fixed widths: within the wall, or past it
module _ (b : ℕ → ℕ) (wall at : ℕ) where
  pub fixed-past : (w : ℕ) → wall < at + w → fixed_at b wall at w ≡ fault past_end
  unfolding fixed_at
  fixed-past w h = rw (lt-leb _ _ h)

  pub fixed_in : (w : ℕ) → at + w ≤ wall → fixed_at b wall at w ≡ got (num b at w, at + w)
  unfolding fixed_at
  fixed_in w h = rw (le-leb _ _ h)

  pub fixed-gives : (w : ℕ) → Ensures (fixed_at b wall at w) (λ r. (r.0 ≡ num b at w) × (r.1 ≡ at + w) × (at + w ≤ wall))
  fixed-gives w = elim (dec_le (at + w) wall) [
    | yes h ↦ rw (fixed_in w h) (gives (refl, refl, h))
    | no h ↦ rw (fixed-past w (omega arith)) stops
  ]

-- a run of bits is its parts
module _ (b : ℕ → ℕ) where
  pub has_left : (at : ℕ) (l m : List ℕ) → Has b at (l ++ m) → Has b at l
  has_left at [] m h = tt
  has_left at (x ∷ l) m h = (h.0, has_left (at + 1) l m h.1)

  pub has_right : (at : ℕ) (l m : List ℕ) → Has b at (l ++ m) → Has b (at + length l) m
  has_right at [] m h = rw add-zero h
  has_right at (x ∷ l) m h = subst (λ (n : ℕ). Has b n m) (omega arith) (has_right (at + 1) l m h.1)

  pub has_both : (at : ℕ) (l m : List ℕ) → Has b at l → Has b (at + length l) m → Has b at (l ++ m)
  has_both at [] m h k = rw add-zero at k
  has_both at (x ∷ l) m h k = (h.0, has_both (at + 1) l m h.1 (subst (λ (n : ℕ). Has b n m) (omega arith) k))

-- bits that stand in one source stand in another that is the same over their places
pub has_same : (b c : ℕ → ℕ) (at : ℕ) (l : List ℕ) → ((i : ℕ) → at ≤ i → i < at + length l → c i ≡ b i) → Has b at l → Has c at l
has_same b c at [] s h = tt
has_same b c at (x ∷ l) s h = (s at (omega arith) (omega arith) ∙ h.0, has_same b c (at + 1) l (λ i k m. s i (omega arith) (omega arith)) h.1)

pub length_digits : (w v : ℕ) → length (digits w v) ≡ w
unfolding digits
length_digits zero v = refl
length_digits (suc w) v = simp length-append (omega (arith, length_digits w (v / 2)))

-- the bits of v are read as v
pub num-digits : (b : ℕ → ℕ) (at w v : ℕ) → v < 2 ^ w → Has b at (digits w v) → num b at w ≡ v
unfolding num digits
num-digits b at zero v h k = omega arith
num-digits b at (suc w) v h k =
    let ih = num-digits b at w (v / 2) (omega arith) (has_left b at (digits w (v / 2)) _ k) in
    let last : b (at + w) ≡ v % 2 = rw (length_digits w (v / 2)) at (has_right b at (digits w (v / 2)) _ k).0 in
    omega arith

-- what is read is the bits that stand there
pub digits-num : (b : ℕ → ℕ) → ((i : ℕ) → b i < 2) → (at w : ℕ) → Has b at (digits w (num b at w))
unfolding num digits
digits-num b bits at zero = tt
digits-num b bits at (suc w) =
    let x = bits (at + w) in
    let half : (num b at w * 2 + b (at + w)) / 2 ≡ num b at w = omega arith in
    let low : (num b at w * 2 + b (at + w)) % 2 ≡ b (at + w) = omega arith in
    rw (half, low) (has_both b at (digits w (num b at w)) _ (digits-num b bits at w) (rw (length_digits w (num b at w)) (refl, tt)))

module _ {b : ℕ → ℕ} where
  pub at_none : {at : ℕ} → At b at [] at
  at_none = record { there = tt; next = omega arith }

  pub at_both : {at p q : ℕ} {w x : List ℕ} → At b at w p → At b p x q → At b at (w ++ x) q
  at_both {at} {p} {q} {w} {x} f g = record {
    there = has_both b at w x f.there (rw f.next at g.there);
    next = simp length-append (omega arith);
  }

  -- the place between the two parts
  pub at_left : {at : ℕ} {q : ℕ} (w x : List ℕ) → At b at (w ++ x) q → At b at w (at + length w)
  at_left {at} w x f = record { there = has_left b at w x f.there; next = refl }

  pub at_right : {at : ℕ} {q : ℕ} (w x : List ℕ) → At b at (w ++ x) q → At b (at + length w) x q
  at_right {at} w x f = record { there = has_right b at w x f.there; next = let l = length-append w x in omega arith }

  pub at-digits : ((i : ℕ) → b i < 2) → (at w : ℕ) → At b at (digits w (num b at w)) (at + w)
  at-digits bits at w = record { there = digits-num b bits at w; next = omega (arith, length_digits w (num b at w)) }

pub at_same : {b c : ℕ → ℕ} {at p : ℕ} {w : List ℕ} → ((i : ℕ) → at ≤ i → i < p → c i ≡ b i) → At b at w p → At c at w p
at_same {b} {c} {at} {p} {w} s f = record { there = has_same b c at w (λ i h k. s i h (omega arith)) f.there; next = f.next }
