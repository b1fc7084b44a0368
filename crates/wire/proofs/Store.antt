-- A word stored over eight bytes, and a write of bits as the change of a field of such a word.
use Prim.Native.Nat.{ℕ, zero, suc, ◌+◌, ◌-◌, ◌*◌, ◌/◌, ◌%◌, ◌^◌, ◌<◌, ◌≤◌}
use mathlib.Core.Path.{◌≡◌, refl, sym, ap, ◌∙◌}
use mathlib.Core.List.{List}
use native.Mathlib.Nat.{add-zero, div-one, div-eq_of_lt, mod-lt}
use native.Mathlib.Numerals.{add-one}
use native.Mathlib.Omega.{arith}
use native.Mathlib.Decide.{dec_lt}
use lib.ListN.{length, get_or, set}
use lib.Seq.{get_or-set_same, get_or-set_other}
use lib.Arith.{digits_lt}
use lib.Pow.{pow_pos, pow-add, shl_exact, shr-shr, high, low, field, mod-mod-pow}
use Rattle.wire.specs.Bits.{bit_at, num, digits}
use Rattle.wire.proofs.BitLaws.{bit-lt, num-lt, num-same, length_digits, digits-num}
use Rattle.wire.proofs.WindowLaws.{num-split, num-high, num-low, bytes-more, mask}
use Rattle.wire.specs.Put.{Put}
use Rattle.wire.specs.Store.{Stored}

pub stored-none : (s : List ℕ) (i y : ℕ) → y < 2 ^ 64 → Stored s s i 0 (y / 2 ^ 64)
unfolding num
stored-none s i y h = record { here = sym (div-eq_of_lt h); below = λ j l. refl; above = λ j l. refl }

-- one byte more
pub stored_more : (s t : List ℕ) (i k d y : ℕ) → i + k < length t → Stored s t i k (y / 2 ^ (d + 8)) → Stored s (set t (i + k) (y / 2 ^ d % 256)) i (k + 1) (y / 2 ^ d)
unfolding bit_at
stored_more s t i k d y h f =
    record {
      here =
          let same = num-same (bit_at u) (bit_at t) (8 * i) (8 * k) (λ j l m. rw (get_or-set_other t (i + k) (j / 8) x 0 (λ q. omega arith))) in
          let byte : get_or u (i + k) 0 ≡ x = get_or-set_same t (i + k) x 0 h in
          let e : 8 * (k + 1) ≡ 8 * k + 8 = omega arith in
          rw (e, bytes-more u i k (omega arith), byte) (omega (arith, same, f.here, shr-shr y d 8));
      below = λ j l. get_or-set_other t (i + k) j x 0 (λ q. omega arith) ∙ f.below j l;
      above = λ j l. get_or-set_other t (i + k) j x 0 (λ q. omega arith) ∙ f.above j (omega arith);
    }
  where
    x : ℕ
    x = y / 2 ^ d % 256

    u : List ℕ
    u = set t (i + k) x

pub stored-first : (s : List ℕ) (i y : ℕ) → i < length s → y < 2 ^ 64 → Stored s (set s i (y / 2 ^ 56 % 256)) i 1 (y / 2 ^ 56)
stored-first s i y h l =
    rw add-zero at (stored_more s s i 0 56 y (rw add-zero h) (stored-none s i y l))

pub stored_last : (s t : List ℕ) (i y : ℕ) → i + 7 < length t → Stored s t i 7 (y / 2 ^ 8) → Stored s (set t (i + 7) (y % 256)) i 8 y
stored_last s t i y h f = rw div-one at (stored_more s t i 7 0 y h f)

-- numbers that are equal have equal bits
num-bits : (b c : ℕ → ℕ) → ((i : ℕ) → b i < 2) → ((i : ℕ) → c i < 2) → (at w : ℕ) → num b at w ≡ num c at w → (j : ℕ) → at ≤ j → j < at + w → b j ≡ c j
unfolding num
num-bits b c p q at zero e j h l = absurd (omega arith)
num-bits b c p q at (suc w) e j h l =
    let u = p (at + w) in
    let v = q (at + w) in
    elim (dec_lt j (at + w)) [
      | yes k ↦ num-bits b c p q at w (omega arith) j h k
      | no k ↦ let f : j ≡ at + w = omega arith in rw f (omega arith)
    ]

-- a word that was stored are its 64 bits, and no other bit changed
pub whole-put : (s t : List ℕ) (i v : ℕ) → Stored s t i 8 v → Put (bit_at s) (bit_at t) (8 * i) (digits 64 v)
unfolding bit_at
whole-put s t i v f = record {
  stands = rw f.here at (digits-num (bit_at t) (bit-lt t) (8 * i) 64);
  before = λ j m. rw (f.below (j / 8) (omega arith));
  after = λ j m. let n = length_digits 64 v in rw (f.above (j / 8) (omega arith));
}

-- the w lowest bits of v are those of what is left of it by 2^w
pub digits_low : (w v : ℕ) → digits w (v % 2 ^ w) ≡ digits w v
unfolding digits
digits_low zero v = refl
digits_low (suc w) v =
    let f : v % 2 ^ suc w / 2 ≡ v / 2 % 2 ^ w = rw add-one at (field v w 1) in
    let g : v % 2 ^ suc w % 2 ≡ v % 2 = rw add-one at (mod-mod-pow v w 1) in
    rw (f, g, digits_low w (v / 2))

-- the word of eight bytes from byte i on, as the bits before a field of w bits, the field, and the d bits after it
module _ (s : List ℕ) (i at w d : ℕ) (h : 8 * i ≤ at) (e : at + w + d ≡ 8 * i + 64) where
  abbrev before : ℕ
  before = num (bit_at s) (8 * i) (at - 8 * i)

  abbrev field_is : ℕ
  field_is = num (bit_at s) at w

  abbrev rest : ℕ
  rest = num (bit_at s) (at + w) d

  at-is : 8 * i + (at - 8 * i) ≡ at
  at-is = omega arith

  whole_is : at - 8 * i + w + d ≡ 64
  whole_is = omega arith

  left_is : num (bit_at s) (8 * i) (at - 8 * i + w) ≡ before * 2 ^ w + field_is
  left_is = rw at-is at (num-split (bit_at s) (8 * i) (at - 8 * i) w)

  word-is : num (bit_at s) (8 * i) 64 ≡ (before * 2 ^ w + field_is) * 2 ^ d + rest
  word-is =
      let p : 8 * i + (at - 8 * i + w) ≡ at + w = omega arith in
      rw (whole_is, left_is, p) at (num-split (bit_at s) (8 * i) (at - 8 * i + w) d)

  -- any field may stand there
  word_fits : (u : ℕ) → u < 2 ^ w → (before * 2 ^ w + u) * 2 ^ d + rest < 2 ^ 64
  word_fits u l =
      let p : 2 ^ (at - 8 * i) * 2 ^ w * 2 ^ d ≡ 2 ^ 64 = sym (rw whole_is at (pow-add 2 (at - 8 * i + w) d) ∙ rw (pow-add 2 (at - 8 * i) w)) in
      rw p at (digits_lt (digits_lt (num-lt (bit_at s) (bit-lt s) (8 * i) (at - 8 * i)) l) (num-lt (bit_at s) (bit-lt s) (at + w) d))

  -- stored with another field u, the word changes the bits of the field alone
  module _ (t : List ℕ) (u : ℕ) (l : u < 2 ^ w) (f : Stored s t i 8 ((before * 2 ^ w + u) * 2 ^ d + rest)) where
    new-left : num (bit_at t) (8 * i) (at - 8 * i + w) ≡ before * 2 ^ w + u
    new-left =
        let p = rw whole_is at (num-high (bit_at t) (bit-lt t) (8 * i) (at - 8 * i + w) d) in
        sym p ∙ ap (λ (z : ℕ). z / 2 ^ d) f.here ∙ high (before * 2 ^ w + u) d (num-lt (bit_at s) (bit-lt s) (at + w) d)

    new-before : num (bit_at s) (8 * i) (at - 8 * i) ≡ num (bit_at t) (8 * i) (at - 8 * i)
    new-before =
        sym (sym (num-high (bit_at t) (bit-lt t) (8 * i) (at - 8 * i) w) ∙ ap (λ (z : ℕ). z / 2 ^ w) new-left ∙ high before w l)

    new-field : num (bit_at t) at w ≡ u
    new-field =
        let p = rw at-is at (num-low (bit_at t) (bit-lt t) (8 * i) (at - 8 * i) w) in
        sym p ∙ ap (λ (z : ℕ). z % 2 ^ w) new-left ∙ low before w l

    new-rest : num (bit_at s) (at + w) d ≡ num (bit_at t) (at + w) d
    new-rest =
        let a : 8 * i + (at - 8 * i + w) ≡ at + w = omega arith in
        let p = rw (whole_is, a) at (num-low (bit_at t) (bit-lt t) (8 * i) (at - 8 * i + w) d) in
        sym (sym p ∙ ap (λ (z : ℕ). z % 2 ^ d) f.here ∙ low (before * 2 ^ w + u) d (num-lt (bit_at s) (bit-lt s) (at + w) d))

    pub field_put : Put (bit_at s) (bit_at t) at (digits w u)
    unfolding bit_at
    field_put =
        record {
          stands = rw new-field at (digits-num (bit_at t) (bit-lt t) at w);
          before = λ j m. elim (dec_lt j (8 * i)) [
            | yes k ↦ rw (f.below (j / 8) (omega arith))
            | no k ↦ sym (num-bits (bit_at s) (bit_at t) (bit-lt s) (bit-lt t) (8 * i) (at - 8 * i) new-before j (omega arith) (omega arith))
          ];
          after = λ j m.
              let n = length_digits w u in
              elim (dec_lt j (8 * i + 64)) [
                | yes k ↦ sym (num-bits (bit_at s) (bit_at t) (bit-lt s) (bit-lt t) (at + w) d new-rest j (omega arith) (omega arith))
                | no k ↦ rw (f.above (j / 8) (omega arith))
              ];
        }

  -- as the code computes it from the word x
  module _ (few : w ≤ 40) (x v : ℕ) (ex : x ≡ num (bit_at s) (8 * i) 64) where
    old-is : x / 2 ^ d % 2 ^ w ≡ field_is
    old-is =
        let p = rw whole_is at (num-high (bit_at s) (bit-lt s) (8 * i) (at - 8 * i + w) d) in
        let q = rw at-is at (num-low (bit_at s) (bit-lt s) (8 * i) (at - 8 * i) w) in
        rw (ex, p, q)

    old-shl : x / 2 ^ d % (1 * 2 ^ w % 2 ^ 64) * 2 ^ d % 2 ^ 64 ≡ field_is * 2 ^ d
    old-shl = rw (mask w few, old-is) (shl_exact w d 64 (num-lt (bit_at s) (bit-lt s) at w) (omega arith))

    new-shl : v % (1 * 2 ^ w % 2 ^ 64) * 2 ^ d % 2 ^ 64 ≡ v % 2 ^ w * 2 ^ d
    new-shl = rw (mask w few) (shl_exact w d 64 (mod-lt v (pow_pos w)) (omega arith))

    pub old-under : x / 2 ^ d % (1 * 2 ^ w % 2 ^ 64) * 2 ^ d % 2 ^ 64 ≤ x
    old-under = rw (old-shl, ex, word-is) (omega arith)

    changed : x - x / 2 ^ d % (1 * 2 ^ w % 2 ^ 64) * 2 ^ d % 2 ^ 64 + v % (1 * 2 ^ w % 2 ^ 64) * 2 ^ d % 2 ^ 64 ≡ (before * 2 ^ w + v % 2 ^ w) * 2 ^ d + rest
    changed = rw (old-shl, new-shl, ex, word-is) (omega arith)

    pub changed-fits : x - x / 2 ^ d % (1 * 2 ^ w % 2 ^ 64) * 2 ^ d % 2 ^ 64 + v % (1 * 2 ^ w % 2 ^ 64) * 2 ^ d % 2 ^ 64 < 2 ^ 64
    changed-fits = rw changed (word_fits (v % 2 ^ w) (mod-lt v (pow_pos w)))

    pub changed-put : (t : List ℕ) → Stored s t i 8 (x - x / 2 ^ d % (1 * 2 ^ w % 2 ^ 64) * 2 ^ d % 2 ^ 64 + v % (1 * 2 ^ w % 2 ^ 64) * 2 ^ d % 2 ^ 64)
        → Put (bit_at s) (bit_at t) at (digits w v)
    changed-put t f = rw digits_low at (field_put t (v % 2 ^ w) (mod-lt v (pow_pos w)) (rw changed at f))
