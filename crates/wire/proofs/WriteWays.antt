-- The steps of the functions that write, as the code goes them.
use Prim.Native.Nat.{ℕ, zero, suc, ◌+◌, ◌-◌, ◌*◌, ◌/◌, ◌%◌, ◌^◌, ◌<◌, ◌≤◌, max}
use mathlib.Core.Path.{◌≡◌, refl, sym, ap, subst, subst₂, ◌∙◌}
use mathlib.Core.List.{List, [], ◌∷◌, ◌++◌, append_assoc, append-nil}
use native.Mathlib.Nat.{add-zero, add-suc, pow-suc, lt_of_lt_of_le, div-div-eq-div-mul, div-eq_of_lt}
use native.Mathlib.Numerals.{add-one}
use native.Mathlib.Omega.{arith}
use borrow.Author.Tests.{lt-ltb, le-ltb}
use lib.ListN.{length, replicate, length-append, length-replicate, replicate-append-replicate}
use lib.Arith.{digits_lt}
use lib.Pow.{pow_pos, pow-add, pow_mono, shl_exact}
use Rattle.wire.specs.Bits.{bit_at, digits}
use Rattle.wire.proofs.BitLaws.{length_digits}
use Rattle.wire.specs.Coded.{Codes}
use Rattle.wire.specs.Number.{more, code_of5, code5, code8}
use Rattle.wire.proofs.Groups.{pow16-more, more-is, more-shortest}
use Rattle.wire.proofs.WindowLaws.{mask}
use Rattle.wire.specs.Put.{Put, Wrote}
use Rattle.wire.proofs.Put.{put-none, put_both}

-- a word has no bit past its 64th
pub high_digit : (v k : ℕ) → v < 2 ^ 64 → 64 ≤ k → 0 ≡ v / 2 ^ k % 2
high_digit v k h l = let e : v / 2 ^ k ≡ 0 = div-eq_of_lt (omega (arith, pow_mono {i = 64} {j = k} l)) in rw e

-- the loop that writes the bits of a number: where it begins, a turn, and its end
half_pow : (v k : ℕ) → v / 2 ^ k / 2 ≡ v / 2 ^ suc k
half_pow v k = div-div-eq-div-mul v (2 ^ k) 2 ∙ ap (λ (m : ℕ). v / m) (omega arith)

pub put-start : (b : ℕ → ℕ) (at v : ℕ) → Put b b at (digits 0 v)
unfolding digits
put-start b at v = put-none b at

put-more : (b c d : ℕ → ℕ) (at i u : ℕ) → Put b c at (digits i (u / 2)) → Put c d (at + i) (u % 2 ∷ []) → Put b d at (digits (i + 1) u)
unfolding digits
put-more b c d at i u p q =
    rw add-one (put_both b c d at (digits i (u / 2)) (u % 2 ∷ []) p (rw (length_digits i (u / 2)) q))

pub put-turn : (b c d : ℕ → ℕ) (at i w v x : ℕ) → i < w → x ≡ v / 2 ^ (w - i - 1) % 2
    → Put b c at (digits i (v / 2 ^ (w - i))) → Put c d (at + i) (x ∷ []) → Put b d at (digits (i + 1) (v / 2 ^ (w - (i + 1))))
put-turn b c d at i w v x h f p q =
    let e : w - i ≡ suc (w - (i + 1)) = omega arith in
    let e' : w - i - 1 ≡ w - (i + 1) = omega arith in
    put-more b c d at i (v / 2 ^ (w - (i + 1))) (rw half_pow (rw e at p)) (rw (f, e') at q)

pub put-end : (b c : ℕ → ℕ) (at i w v : ℕ) → i ≤ w → w ≤ i → Put b c at (digits i (v / 2 ^ (w - i))) → Put b c at (digits w v)
put-end b c at i w v h l f =
    let k : i ≡ w = omega arith in
    let e : w - i ≡ 0 = omega arith in
    let one : v / 2 ^ 0 ≡ v = omega arith in
    subst₂ (λ (j u : ℕ). Put b c at (digits j u)) k (ap (λ (k : ℕ). v / 2 ^ k) e ∙ one) f

-- a write of bits with the place past them
pub wrote-is : (s t : List ℕ) (at w v : ℕ) → Put (bit_at s) (bit_at t) at (digits w v) → Wrote s t at (digits w v) (at + w)
wrote-is s t at w v f = record { bits = f; next = omega (arith, length_digits w v) }

pub put-zero : (b : ℕ → ℕ) (at w v : ℕ) → w ≡ 0 → Put b b at (digits w v)
put-zero b at w v e = rw e (put-start b at v)

-- the ways through `extra`
pub extra-is : (n v : ℕ) → n ≤ 7 → v < 16 ^ suc n → 16 ^ n ≤ max 1 v → (n ≡ more 7 v) × (n ≤ 7)
extra-is n v h l k = (sym (more-is 7 n v h (record { holds = l; least = k })), h)

-- the ones and the zero, as a number
ones-digits : (n : ℕ) → digits n (2 ^ n - 1) ≡ replicate n 1
unfolding digits
ones-digits zero = refl
ones-digits (suc n) =
    let p = pow_pos n in
    let a : (2 ^ suc n - 1) / 2 ≡ 2 ^ n - 1 = omega arith in
    let b : (2 ^ suc n - 1) % 2 ≡ 1 = omega arith in
    rw (a, b, ones-digits n) (replicate-append-replicate {A = ℕ} n 1 1 ∙ rw add-one)

shl-more : (n : ℕ) → n ≤ 7 → 1 * 2 ^ (n + 1) % 2 ^ 64 ≡ 2 ^ suc n
shl-more n h = mask (n + 1) (omega arith) ∙ rw add-one

unary : (n : ℕ) → n ≤ 7 → digits (n + 1) (1 * 2 ^ (n + 1) % 2 ^ 64 - 2) ≡ replicate n 1 ++ (0 ∷ [])
unfolding digits
unary n h =
    let p = pow_pos n in
    let a : (2 ^ suc n - 2) / 2 ≡ 2 ^ n - 1 = omega arith in
    let b : (2 ^ suc n - 2) % 2 ≡ 0 = omega arith in
    rw (shl-more n h) (subst (λ (m : ℕ). digits m (2 ^ suc n - 2) ≡ replicate n 1 ++ (0 ∷ [])) (sym (add-one n)) (rw (a, b, ones-digits n)))

pub shl-two : (n : ℕ) → n ≤ 7 → 2 ≤ 1 * 2 ^ (n + 1) % 2 ^ 64
shl-two n h = rw (shl-more n h) (omega (arith, pow_pos n))

pub length-code_of5 : (n v : ℕ) → length (code_of5 n v) ≡ 5 * (n + 1)
unfolding code_of5
length-code_of5 n v = simp (length-append, length-replicate) (omega (arith, length_digits (4 * (n + 1)) v))

pub length-code5 : (n v : ℕ) → n ≡ more 7 v → length (code5 v) ≡ 5 * (n + 1)
unfolding code5
length-code5 n v e = rw (← e) (length-code_of5 n v)

-- the ways through `size5` and `put5`
pub size5-is : (n v p : ℕ) → n ≡ more 7 v → p ≡ 5 * (n + 1) → p ≡ length (code5 v)
size5-is n v p e f = f ∙ sym (length-code5 n v e)

-- two runs of bits are the bits of one number
pub digits-split : (m k a b : ℕ) → b < 2 ^ k → digits (m + k) (a * 2 ^ k + b) ≡ digits m a ++ digits k b
unfolding digits
digits-split m zero a b h =
    let e : a * 2 ^ 0 + b ≡ a = omega arith in
    rw (add-zero, e, append-nil)
digits-split m (suc k) a b h =
    let e : (a * 2 ^ suc k + b) / 2 ≡ a * 2 ^ k + b / 2 = rw pow-suc (omega arith) in
    let f : (a * 2 ^ suc k + b) % 2 ≡ b % 2 = rw pow-suc (omega arith) in
    rw (add-suc, e, f, digits-split m k a (b / 2) (omega arith)) (append_assoc (digits m a) (digits k (b / 2)) (b % 2 ∷ []))

-- `put5` writes the ones, the zero and the groups as one number
module _ (n v : ℕ) (e : n ≡ more 7 v) (h : n ≤ 7) (small : v < 2 ^ 32) where
  groups-hold : v < 2 ^ (4 * (n + 1))
  groups-hold = rw (e, pow16-more) (more-shortest 7 v small).0.holds

  ones-fit : (1 * 2 ^ (n + 1) % 2 ^ 64 - 2) * 2 ^ (4 * (n + 1)) % 2 ^ 64 ≡ (1 * 2 ^ (n + 1) % 2 ^ 64 - 2) * 2 ^ (4 * (n + 1))
  ones-fit = shl_exact (n + 1) (4 * (n + 1)) 64 (rw (mask (n + 1) (omega arith)) (omega (arith, pow_pos (n + 1)))) (omega arith)

  pub five-fits : (1 * 2 ^ (n + 1) % 2 ^ 64 - 2) * 2 ^ (4 * (n + 1)) % 2 ^ 64 + v < 2 ^ 64
  five-fits =
      let p : 2 ^ (n + 1) * 2 ^ (4 * (n + 1)) ≡ 2 ^ (n + 1 + 4 * (n + 1)) = sym (pow-add 2 (n + 1) (4 * (n + 1))) in
      let q = pow_mono {i = n + 1 + 4 * (n + 1)} {j = 64} (omega arith) in
      let u : 1 * 2 ^ (n + 1) % 2 ^ 64 - 2 < 2 ^ (n + 1) = rw (mask (n + 1) (omega arith)) (omega (arith, pow_pos (n + 1))) in
      rw ones-fit (lt_of_lt_of_le (digits_lt u groups-hold) (rw p q))

  pub five-digits : digits (5 * (n + 1)) ((1 * 2 ^ (n + 1) % 2 ^ 64 - 2) * 2 ^ (4 * (n + 1)) % 2 ^ 64 + v) ≡ code5 v
  unfolding code5 code_of5
  five-digits =
      let d : 5 * (n + 1) ≡ n + 1 + 4 * (n + 1) = omega arith in
      rw (← e, d, ones-fit, digits-split (n + 1) (4 * (n + 1)) (1 * 2 ^ (n + 1) % 2 ^ 64 - 2) v groups-hold, unary n h) (append_assoc (replicate n 1) (0 ∷ []) (digits (4 * (n + 1)) v))

  pub five-low : (1 * 2 ^ (n + 1) % 2 ^ 64 - 2) * 2 ^ (4 * (n + 1)) % 2 ^ 64 + v < 2 ^ (5 * (n + 1))
  five-low =
      let p : 2 ^ (n + 1) * 2 ^ (4 * (n + 1)) ≡ 2 ^ (n + 1 + 4 * (n + 1)) = sym (pow-add 2 (n + 1) (4 * (n + 1))) in
      let d : n + 1 + 4 * (n + 1) ≡ 5 * (n + 1) = omega arith in
      let u : 1 * 2 ^ (n + 1) % 2 ^ 64 - 2 < 2 ^ (n + 1) = rw (mask (n + 1) (omega arith)) (omega (arith, pow_pos (n + 1))) in
      rw ones-fit (rw (p, d) at (digits_lt u groups-hold))

  pub five-coded : Codes (record { size = 5 * (n + 1); bits = (1 * 2 ^ (n + 1) % 2 ^ 64 - 2) * 2 ^ (4 * (n + 1)) % 2 ^ 64 + v }) (code5 v)
  five-coded = record { is = five-digits; low = five-low }

pub put5-done : (s t : List ℕ) (at n v : ℕ) → n ≡ more 7 v → n ≤ 7 → v < 2 ^ 32
    → Put (bit_at s) (bit_at t) at (digits (5 * (n + 1)) ((1 * 2 ^ (n + 1) % 2 ^ 64 - 2) * 2 ^ (4 * (n + 1)) % 2 ^ 64 + v))
    → Wrote s t at (code5 v) (at + 5 * (n + 1))
put5-done s t at n v e h l f = record { bits = rw (five-digits n v e h l) at f; next = omega (arith, length-code5 n v e) }

-- and through `put8`
pub length-short8 : (v : ℕ) → v < 128 → length (code8 v) ≡ 8
unfolding code8
length-short8 v h = rw (lt-ltb v 128 h) (length_digits 8 v)

pub length-long8 : (v : ℕ) → 128 ≤ v → length (code8 v) ≡ 16
unfolding code8
length-long8 v h = rw (le-ltb v 128 h) (simp length-append (omega (arith, length_digits 8 (128 + v / 128), length_digits 8 (v % 128))))

pub put8-short : (s t : List ℕ) (at v p : ℕ) → v < 128 → Wrote s t at (digits 8 v) p → Wrote s t at (code8 v) p
unfolding code8
put8-short s t at v p h f = rw (lt-ltb v 128 h) f

pub put8-long : (s t : List ℕ) (at v p : ℕ) → 128 ≤ v → Wrote s t at (digits 16 ((128 + v / 128) * 256 + v % 128)) p → Wrote s t at (code8 v) p
unfolding code8
put8-long s t at v p h f = rw (le-ltb v 128 h) (rw (digits-split 8 8 (128 + v / 128) (v % 128) (omega arith)) at f)
