-- For n choices the width is the least w with 2^w at least n, so one choice takes no bits.
use Prim.Native.Nat.{ℕ, zero, suc, ◌+◌, ◌-◌, ◌<◌, ◌≤◌, ◌^◌}
use mathlib.Core.Path.{◌≡◌, subst, sym}
use native.Mathlib.Nat.{add-zero}
use native.Mathlib.Omega.{arith}
use native.Mathlib.Decide.{dec_le, dec_lt}
use borrow.Author.Tests.{le-leb, lt-leb}
use lib.Pow.{pow_pos, pow_mono, pow-lt}
use lib.Count.{count_leading_zeros, leading_length}
use Rattle.wire.specs.Width.{least_from, width}

least-holds : (f w n : ℕ) → n ≤ 2 ^ (w + f) → n ≤ 2 ^ least_from f w n
unfolding least_from
least-holds zero w n h = rw add-zero at h
least-holds (suc f) w n h = elim (dec_le n (2 ^ w)) [
  | yes k ↦ rw (le-leb n (2 ^ w) k) k
  | no k ↦ rw (lt-leb n (2 ^ w) (omega arith)) (least-holds f (suc w) n (subst (λ (m : ℕ). n ≤ 2 ^ m) (omega arith) h))
]

-- no smaller one from w on holds n
least-least : (f w n v : ℕ) → w ≤ v → v < least_from f w n → 2 ^ v < n
unfolding least_from
least-least zero w n v h l = absurd (omega arith)
least-least (suc f) w n v h l = elim (dec_le n (2 ^ w)) [
  | yes k ↦ let m : v < w = rw (le-leb n (2 ^ w) k) at l in absurd (omega arith)
  | no k ↦
      let m : v < least_from f (suc w) n = rw (lt-leb n (2 ^ w) (omega arith)) at l in
      elim (dec_lt w v) [
        | yes j ↦ least-least f (suc w) n v (omega arith) m
        | no j ↦ let e : v ≡ w = omega arith in rw e (omega arith)
      ]
]

under_pow : (n : ℕ) → n ≤ 2 ^ n
under_pow zero = omega arith
under_pow (suc n) = omega (arith, under_pow n, pow_pos n)

-- the two laws that say what it is
pub width-holds : (n : ℕ) → n ≤ 2 ^ width n
unfolding width
width-holds n = least-holds n 0 n (subst (λ (m : ℕ). n ≤ 2 ^ m) (omega arith) (under_pow n))

pub width-least : (n v : ℕ) → v < width n → 2 ^ v < n
unfolding width
width-least n v h = least-least n 0 n v (omega arith) h

-- so whatever holds n, where nothing smaller does, is the width
pub width_is : (n w : ℕ) → n ≤ 2 ^ w → ((v : ℕ) → v < w → 2 ^ v < n) → w ≡ width n
width_is n w h l = elim (dec_lt w (width n)) [
  | yes k ↦ absurd (omega (arith, width-least n w k))
  | no k ↦ elim (dec_lt (width n) w) [
    | yes j ↦ absurd (omega (arith, l (width n) j, width-holds n))
    | no j ↦ omega arith
  ]
]

pub width-pow : (w : ℕ) → width (2 ^ w) ≡ w
width-pow w = sym (width_is (2 ^ w) w (omega arith) (λ v h. pow-lt h))

-- a width that holds n is no shorter
pub width-under : (n w : ℕ) → n ≤ 2 ^ w → width n ≤ w
width-under n w h = elim (dec_lt w (width n)) [
  | yes k ↦ absurd (omega (arith, width-least n w k))
  | no k ↦ omega arith
]

-- of k bits, those below the leading zeros of the last choice; none where there is none
pub width-zeros : (k n : ℕ) → n - 1 < 2 ^ k → k - count_leading_zeros k (n - 1) ≡ width n
width-zeros k n l =
    let (m, sum, holds, least) = leading_length k (n - 1) l in
    let e : k - count_leading_zeros k (n - 1) ≡ m = omega arith in
    rw e (width_is n m (omega arith) (λ v j. omega (arith, pow_pos v, pow_mono {i = suc v} {j = m} j)))
