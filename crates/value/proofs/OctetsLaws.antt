-- An octet from a bit of a byte on: the 8 bits that it is, and what changes in a buffer where it is written.
use Prim.Native.Nat.{ℕ, zero, suc, ◌+◌, ◌-◌, ◌*◌, ◌/◌, ◌%◌, ◌^◌, ◌<◌, ◌≤◌}
use mathlib.Core.Path.{◌≡◌, refl, sym, ap, subst, ◌∙◌}
use mathlib.Core.List.{List}
use native.Mathlib.Nat.{add-zero, mul_assoc}
use native.Mathlib.Omega.{arith}
use native.Mathlib.Decide.{ℕ_discrete}
use mir.Val.{Fits}
use mir.Syntax.{w8}
use lib.ListN.{get_or}
use lib.Pow.{shr-shr, field, mod-mod-pow}
use Rattle.wire.specs.Bits.{bit_at, num, digits, Has}
use Rattle.wire.proofs.BitLaws.{bit-lt, digits-num, length_digits}
use Rattle.wire.specs.Put.{Wrote}
use Rattle.utf8.specs.Text.{text_fault}
use Rattle.utf8.specs.Slanted.{octet_at, octets_at}
use Rattle.utf8.proofs.SlantedLaws.{seven}
use Rattle.value.specs.Simple.{bytes_at}

-- a number of bits is its first bits, and the others
num-split : (b : ℕ → ℕ) (at v w : ℕ) → num b at (v + w) ≡ num b at v * 2 ^ w + num b (at + v) w
unfolding num
num-split b at v zero = rw add-zero (omega arith)
num-split b at v (suc w) =
    let z : v + suc w ≡ suc (v + w) = omega arith in
    let y : at + v + w ≡ at + (v + w) = omega arith in
    let ih = num-split b at v w in
    let two : 2 ^ suc w ≡ 2 ^ w * 2 = omega arith in
    let d : num b at v * 2 ^ suc w ≡ num b at v * 2 ^ w * 2 = ap (λ (n : ℕ). num b at v * n) two ∙ sym (mul_assoc (num b at v) (2 ^ w) 2) in
    rw (z, y, ih) (omega arith)

-- the first bits of a byte
num-byte : (s : List ℕ) (i w : ℕ) → w ≤ 8 → get_or s i 0 < 256 → num (bit_at s) (8 * i) w ≡ get_or s i 0 / 2 ^ (8 - w)
unfolding num bit_at
num-byte s i zero h f = omega arith
num-byte s i (suc w) h f =
    let q : (8 * i + w) / 8 ≡ i = omega arith in
    let r : 7 - (8 * i + w) % 8 ≡ 7 - w = omega arith in
    let d : 8 - suc w ≡ 7 - w = omega arith in
    let e : 8 - w ≡ 7 - w + 1 = omega arith in
    let ih = num-byte s i w (omega arith) f in
    let g = shr-shr (get_or s i 0) (7 - w) 1 in
    rw (q, r, d, ih, e, ← g) (omega arith)

-- the low bits of a byte, raised
raised : (x : ℕ) → x < 256 → (k : ℕ) → 0 < k → k < 8 → (n : ℕ) → x ≡ x / 2 ^ (8 - k) * 2 ^ (8 - k) + n → n * 2 ^ k ≡ x * 2 ^ k % 256
raised x f =
    seven (λ k. (n : ℕ) → x ≡ x / 2 ^ (8 - k) * 2 ^ (8 - k) + n → n * 2 ^ k ≡ x * 2 ^ k % 256)
    (λ n e. omega arith) (λ n e. omega arith) (λ n e. omega arith) (λ n e. omega arith) (λ n e. omega arith) (λ n e. omega arith) (λ n e. omega arith)

module _ (s : List ℕ) (i : ℕ) (f : get_or s i 0 < 256) where
  pub octet-num : (k : ℕ) → k < 8 → (0 < k → get_or s (suc i) 0 < 256) → num (bit_at s) (8 * i + k) 8 ≡ octet_at s k i
  unfolding octet_at
  octet-num zero h g = rw add-zero (num-byte s i 8 (omega arith) f ∙ omega arith)
  octet-num (suc k) h g =
      let b = bit_at s in
      let x = get_or s i 0 in
      let m : 8 - suc k ≡ 7 - k = omega arith in
      let u : suc k + (7 - k) ≡ 8 = omega arith in
      let v : 7 - k + suc k ≡ 8 = omega arith in
      let w : 8 * i + suc k + (7 - k) ≡ 8 * suc i = omega arith in
      let first : num b (8 * i) (suc k) ≡ x / 2 ^ (7 - k) = rw m at (num-byte s i (suc k) (omega arith) f) in
      let all : num b (8 * i) 8 ≡ x = num-byte s i 8 (omega arith) f ∙ omega arith in
      let split : num b (8 * i) 8 ≡ num b (8 * i) (suc k) * 2 ^ (7 - k) + num b (8 * i + suc k) (7 - k) = rw u at (num-split b (8 * i) (suc k) (7 - k)) in
      let parts : num b (8 * i + suc k) 8 ≡ num b (8 * i + suc k) (7 - k) * 2 ^ suc k + num b (8 * suc i) (suc k) = rw (v, w) at (num-split b (8 * i + suc k) (7 - k) (suc k)) in
      let last : num b (8 * suc i) (suc k) ≡ get_or s (suc i) 0 / 2 ^ (7 - k) = rw m at (num-byte s (suc i) (suc k) (omega arith) (g (omega arith))) in
      let low : x ≡ x / 2 ^ (8 - suc k) * 2 ^ (8 - suc k) + num b (8 * i + suc k) (7 - k) = rw m (sym all ∙ split ∙ rw first) in
      rw (parts, last, raised x f (suc k) (omega arith) h (num b (8 * i + suc k) (7 - k)) low)

-- so for n of them, and as the code finds the byte and the bit
module _ (s : List ℕ) (f : (j : ℕ) → Fits w8 (get_or s j 0)) where
  octets-bytes : (k : ℕ) → k < 8 → (i n : ℕ) → bytes_at (bit_at s) (8 * i + k) n ≡ octets_at s k i n
  unfolding bytes_at octets_at
  octets-bytes k h i zero = refl
  octets-bytes k h i (suc n) =
      let z : 8 * i + k + 8 ≡ 8 * suc i + k = omega arith in
      rw (octet-num s i (f i).fits k h (λ l. (f (suc i)).fits), z, octets-bytes k h (suc i) n)

  pub byte-found : (a i r : ℕ) → i ≡ a / 8 → r ≡ octet_at s (a % 8) i → r ≡ num (bit_at s) a 8
  byte-found a i r e g =
      let z : 8 * i + a % 8 ≡ a = omega arith in
      g ∙ sym (rw z at (octet-num s i (f i).fits (a % 8) (omega arith) (λ l. (f (suc i)).fits)))

  pub text-found : (a n i to r : ℕ) → i ≡ a / 8 → to ≡ i + n → r ≡ text_fault (octets_at s (a % 8) i (to - i)) → r ≡ text_fault (bytes_at (bit_at s) a n)
  text-found a n i to r e d g =
      let z : 8 * i + a % 8 ≡ a = omega arith in
      let y : to - i ≡ n = omega arith in
      (rw y at g) ∙ ap text_fault (sym (rw (z, y) at (octets-bytes (a % 8) (omega arith) i (to - i))))

-- bits of a number above a place are those of what it is shifted by less; those below it are those of what is left by a division
above : (a b h d : ℕ) → a / 2 ^ h ≡ b / 2 ^ h → a / 2 ^ (h + d) % 2 ≡ b / 2 ^ (h + d) % 2
above a b h d e = rw (← shr-shr a h d, ← shr-shr b h d, e)

bit-left : (a d m : ℕ) → a % 2 ^ (d + 1 + m) / 2 ^ m % 2 ≡ a / 2 ^ m % 2
bit-left a d m = rw (field a (d + 1) m) (mod-mod-pow (a / 2 ^ m) d 1)

below : (a b d m : ℕ) → a % 2 ^ (d + 1 + m) ≡ b % 2 ^ (d + 1 + m) → a / 2 ^ m % 2 ≡ b / 2 ^ m % 2
below a b d m e = sym (bit-left a d m) ∙ ap (λ (n : ℕ). n / 2 ^ m % 2) e ∙ bit-left b d m

-- where bytes p and p + 1 alone differ, and these only in the 8 bits from bit k of byte p on, the octet there is written
module _ (u t : List ℕ) (p k x : ℕ) (h : k < 8)
    (others : (j : ℕ) → (j ≡ p → ⊥) → (j ≡ suc p → ⊥) → get_or t j 0 ≡ get_or u j 0)
    (tops : 0 < k → get_or t p 0 / 2 ^ (8 - k) ≡ get_or u p 0 / 2 ^ (8 - k))
    (lows : get_or t (suc p) 0 % 2 ^ (8 - k) ≡ get_or u (suc p) 0 % 2 ^ (8 - k)) where
  same_byte : (j : ℕ) → (j / 8 ≡ p → ⊥) → (j / 8 ≡ suc p → ⊥) → bit_at t j ≡ bit_at u j
  unfolding bit_at
  same_byte j d e = ap (λ (n : ℕ). n / 2 ^ (7 - j % 8) % 2) (others (j / 8) d e)

  same-before : (j : ℕ) → j < 8 * p + k → bit_at t j ≡ bit_at u j
  unfolding bit_at
  same-before j l = elim (ℕ_discrete (j / 8) p) [
    | yes e ↦
        let z : 7 - j % 8 ≡ 8 - k + (7 - j % 8 - (8 - k)) = omega arith in
        rw (e, z) (above (get_or t p 0) (get_or u p 0) (8 - k) (7 - j % 8 - (8 - k)) (tops (omega arith)))
    | no e ↦ same_byte j e (λ d. omega arith)
  ]

  same_after : (j : ℕ) → 8 * p + k + 8 ≤ j → bit_at t j ≡ bit_at u j
  unfolding bit_at
  same_after j l = elim (ℕ_discrete (j / 8) (suc p)) [
    | yes e ↦
        let z : 8 - k ≡ j % 8 - k + 1 + (7 - j % 8) = omega arith in
        rw e (below (get_or t (suc p) 0) (get_or u (suc p) 0) (j % 8 - k) (7 - j % 8) (rw z at lows))
    | no e ↦ same_byte j (λ d. omega arith) e
  ]

  pub put-octet : get_or t p 0 < 256 → (0 < k → get_or t (suc p) 0 < 256) → octet_at t k p ≡ x → Wrote u t (8 * p + k) (digits 8 x) (8 * p + k + 8)
  put-octet f g o =
      record {
        bits = record {
          stands = subst (λ (n : ℕ). Has (bit_at t) (8 * p + k) (digits 8 n)) (octet-num t p f k h g ∙ o) (digits-num (bit_at t) (bit-lt t) (8 * p + k) 8);
          before = same-before;
          after = λ j l. same_after j (let n = length_digits 8 x in omega arith);
        };
        next = let n = length_digits 8 x in omega arith;
      }
