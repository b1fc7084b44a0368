-- A vluimsbf5 that lies whole in a window: how many ones it begins with, and its groups.
use Prim.Native.Nat.{ℕ, zero, suc, ◌+◌, ◌-◌, ◌*◌, ◌/◌, ◌%◌, ◌^◌, ◌<◌, ◌≤◌}
use mathlib.Core.Path.{◌≡◌, refl, sym, ap, ◌∙◌}
use mathlib.Core.Bool.{true}
use mathlib.Core.List.{List}
use native.Mathlib.Nat.{add-zero, zero-add, mod-lt, lt_of_lt_of_le}
use native.Mathlib.Numerals.{add-one, one-add}
use native.Mathlib.Omega.{arith}
use native.Mathlib.Decide.{ℕ_discrete, dec_le}
use borrow.Author.Tests.{eq-eqb, ne_eqb}
use lib.Count.{count_leading_zeros, leading_length}
use lib.Pow.{pow_pos, pow_mono, ones_split, ones_lt, high}
use Rattle.numbers.specs.Refusal.{past_end, too_large}
use Rattle.wire.specs.declared.Bits.{Bits}
use Rattle.std.specs.Prelude.{Ok, Err, eqb, not}
use Rattle.numbers.specs.declared.refusal.Refusal.TheVariants as refusal
use Rattle.wire.specs.Answer.{Numbered}
use Rattle.wire.specs.Res.{got, fault}
use Rattle.wire.specs.Bits.{bit_at, num}
use Rattle.wire.proofs.BitLaws.{bit-lt, num-lt, num-more, fixed_in, fixed-past}
use Rattle.wire.specs.Answer.{number_is}
use Rattle.wire.specs.Number.{ones_at, is_short, number5}
use Rattle.wire.proofs.Steps.{ones-past, ones-zero, ones-one, ones-full, short-one, short-not, short-more, groups-got, groups-fault, five-got, five-fault}
use Rattle.wire.proofs.WindowLaws.{num-split, num-high, num-low, first_is, mask}
use Rattle.wire.specs.Leading.{Leading, cut_groups}

-- ones are passed over, one by one
module _ (b : ℕ → ℕ) (bits : (i : ℕ) → b i < 2) where
  num-one : (at : ℕ) → num b at 1 ≡ b at
  unfolding num
  num-one at = rw add-zero (omega arith)

  run-first : (at n : ℕ) → num b at (suc n) ≡ 2 ^ suc n - 1 → (b at ≡ 1) × (num b (at + 1) n ≡ 2 ^ n - 1)
  run-first at n e =
      let s : num b at (suc n) ≡ b at * 2 ^ n + num b (at + 1) n = rw (one-add, num-one at) at (num-split b at 1 n) in
      let l = num-lt b bits (at + 1) n in
      let p = pow_pos n in
      let k = bits at in
      elim (ℕ_discrete (b at) 0) [
        | yes z ↦ let z' : b at * 2 ^ n ≡ 0 = rw z (omega arith) in absurd (omega arith)
        | no z ↦
            let o : b at ≡ 1 = omega arith in
            let o' : b at * 2 ^ n ≡ 2 ^ n = rw o (omega arith) in
            (o, omega arith)
      ]

  pub ones-skip : (wall n f at k : ℕ) → at + n ≤ wall → num b at n ≡ 2 ^ n - 1 → ones_at (n + f) b wall at k ≡ ones_at f b wall (at + n) (k + n)
  ones-skip wall zero f at k l e = rw (zero-add f, add-zero at, add-zero k)
  ones-skip wall (suc n) f at k l e =
      let r = run-first at n e in
      let g : k + 1 + n ≡ k + suc n = omega arith in
      let i : at + 1 + n ≡ at + suc n = omega arith in
      ones-one b wall at {f = suc n + f} (n + f) k (omega arith) (omega arith) (λ z. omega arith)
      ∙ rw (g, i) at (ones-skip wall n f (at + 1) (k + 1) (omega arith) r.1)

-- what begins with n ones, in the window x at its place
module _ (s : List ℕ) (wall at n x : ℕ) (e : x ≡ num (bit_at s) at 57) (lead : Leading (x / 2 ^ 49) n) where
  eight-bits : x / 2 ^ 49 ≡ num (bit_at s) at 8
  eight-bits = first_is s at 8 x (omega arith) e

  lead-ones : num (bit_at s) at n ≡ 2 ^ n - 1
  lead-ones =
      let d : n + (8 - n) ≡ 8 = omega (arith, lead.few) in
      let f : num (bit_at s) at 8 / 2 ^ (8 - n) ≡ num (bit_at s) at n = rw d at (num-high (bit_at s) (bit-lt s) at n (8 - n)) in
      sym f ∙ rw eight-bits at lead.ones

  -- so do the j bits up to a wall among them
  lead-fewer : (j : ℕ) → j ≤ n → num (bit_at s) at j ≡ 2 ^ j - 1
  lead-fewer j h =
      let d : j + (n - j) ≡ n = omega arith in
      let f : num (bit_at s) at n / 2 ^ (n - j) ≡ num (bit_at s) at j = rw d at (num-high (bit_at s) (bit-lt s) at j (n - j)) in
      let g : 2 ^ n - 1 ≡ (2 ^ j - 1) * 2 ^ (n - j) + (2 ^ (n - j) - 1) = rw d at (ones_split j (n - j)) in
      sym f ∙ rw (lead-ones, g) (high (2 ^ j - 1) (n - j) (ones_lt (n - j)))

  -- the wall among the ones, or right after them
  pub five-short : at ≤ wall → wall - at ≤ n → wall - at < 8 → number5 (bit_at s) wall at ≡ fault past_end
  five-short h k l =
      let j = wall - at in
      let d : j + (8 - j) ≡ 8 = omega arith in
      let r = rw d at (ones-skip (bit_at s) (bit-lt s) wall j (8 - j) at 0 (omega arith) (lead-fewer j k)) in
      five-fault (bit_at s) wall at (r ∙ ones-past (bit_at s) wall (at + j) (8 - j) (0 + j) (omega arith) (omega arith))

  -- an eighth one
  pub five-full : 8 ≤ n → at + 8 ≤ wall → number5 (bit_at s) wall at ≡ fault too_large
  five-full h k =
      let r = ones-skip (bit_at s) (bit-lt s) wall 8 0 at 0 k (lead-fewer 8 h) in
      five-fault (bit_at s) wall at (r ∙ ones-full (bit_at s) wall (at + 8) (0 + 8) refl)

  module _ (few : n < 8) where
    lead_zero : bit_at s (at + n) ≡ 0
    lead_zero =
        let d : suc n + (7 - n) ≡ 8 = omega arith in
        let f : num (bit_at s) at 8 / 2 ^ (7 - n) ≡ num (bit_at s) at (suc n) = rw d at (num-high (bit_at s) (bit-lt s) at (suc n) (7 - n)) in
        let g : num (bit_at s) at (suc n) % 2 ≡ 0 = sym (ap (λ (z : ℕ). z % 2) f) ∙ rw eight-bits at (lead.then few) in
        let m : num (bit_at s) at (suc n) ≡ num (bit_at s) at n * 2 + bit_at s (at + n) = rw add-one at (num-more (bit_at s) at n) in
        omega (arith, bit-lt s (at + n))

    lead-got : at + n < wall → ones_at 8 (bit_at s) wall at 0 ≡ got (n, at + n + 1)
    lead-got l =
        let d : n + (8 - n) ≡ 8 = omega arith in
        let r = rw (d, zero-add n) at (ones-skip (bit_at s) (bit-lt s) wall n (8 - n) at 0 (omega arith) lead-ones) in
        r ∙ ones-zero (bit_at s) wall (at + n) (8 - n) n (omega arith) l lead_zero

    -- the wall among the groups
    pub five-cut-off : at + n < wall → wall < at + 5 * (n + 1) → number5 (bit_at s) wall at ≡ fault past_end
    five-cut-off l h =
        five-got (bit_at s) wall at (lead-got l)
        ∙ groups-fault (bit_at s) wall (at + n + 1) n (fixed-past (bit_at s) wall (at + n + 1) (4 * (n + 1)) (omega arith))

    groups-whole : num (bit_at s) (at + n + 1) (4 * (n + 1)) ≡ cut_groups x n
    unfolding cut_groups
    groups-whole =
        let d : n + 1 + 4 * (n + 1) ≡ 5 * (n + 1) = omega arith in
        let p : at + (n + 1) ≡ at + n + 1 = omega arith in
        rw (first_is s at (5 * (n + 1)) x (omega arith) e) (sym (rw (d, p) at (num-low (bit_at s) (bit-lt s) at (n + 1) (4 * (n + 1)))))

    -- whole below the wall
    pub five-whole : at + 5 * (n + 1) ≤ wall → number5 (bit_at s) wall at ≡ got (cut_groups x n, at + 5 * (n + 1), is_short n (cut_groups x n))
    five-whole h =
        let p : at + n + 1 + 4 * (n + 1) ≡ at + 5 * (n + 1) = omega arith in
        let g = fixed_in (bit_at s) wall (at + n + 1) (4 * (n + 1)) (omega arith) in
        five-got (bit_at s) wall at (lead-got (omega arith)) ∙ groups-got (bit_at s) wall (at + n + 1) n g ∙ rw (groups-whole, p)

pub some-ones : (x n : ℕ) → 2 ^ 56 ≤ x → Leading (x / 2 ^ 49) n → 0 < n
some-ones x zero h l = let z = l.then (omega arith) in let o = l.ones in absurd (omega arith)
some-ones x (suc n) h l = omega arith

pub window-fits : (s : List ℕ) (at x : ℕ) → x ≡ num (bit_at s) at 57 → x / 2 ^ 49 < 256
window-fits s at x e = let l = num-lt (bit_at s) (bit-lt s) at 57 in omega arith

-- the ones that eight bits begin with, by the length m of what is left to eight ones
ones-by : (y m : ℕ) → y < 256 → 255 - y < 2 ^ m → 2 ^ m ≤ 2 * (255 - y) + 1 → Leading y (8 - m)
ones-by y zero h a b = record { few = omega arith; ones = omega arith; then = λ l. absurd (omega arith) }
ones-by y (suc zero) h a b = record { few = omega arith; ones = omega arith; then = λ l. omega arith }
ones-by y (suc (suc zero)) h a b = record { few = omega arith; ones = omega arith; then = λ l. omega arith }
ones-by y (suc (suc (suc zero))) h a b = record { few = omega arith; ones = omega arith; then = λ l. omega arith }
ones-by y (suc (suc (suc (suc zero)))) h a b = record { few = omega arith; ones = omega arith; then = λ l. omega arith }
ones-by y (suc (suc (suc (suc (suc zero))))) h a b = record { few = omega arith; ones = omega arith; then = λ l. omega arith }
ones-by y (suc (suc (suc (suc (suc (suc zero)))))) h a b = record { few = omega arith; ones = omega arith; then = λ l. omega arith }
ones-by y (suc (suc (suc (suc (suc (suc (suc zero))))))) h a b = record { few = omega arith; ones = omega arith; then = λ l. omega arith }
ones-by y (suc (suc (suc (suc (suc (suc (suc (suc zero)))))))) h a b = record { few = omega arith; ones = omega arith; then = λ l. omega arith }
ones-by y (suc (suc (suc (suc (suc (suc (suc (suc (suc m))))))))) h a b = absurd (omega (arith, pow_mono {i = 9} {j = suc (suc (suc (suc (suc (suc (suc (suc (suc m))))))))} (omega arith)))

module _ (y : ℕ) (h : y < 256) where
  length-left : (m : ℕ) × (count_leading_zeros 32 (255 - y) + m ≡ 32) × (255 - y < 2 ^ m) × (2 ^ m ≤ 2 * (255 - y) + 1)
  length-left = leading_length 32 (255 - y) (omega arith)

  pub zeros-left : 24 ≤ count_leading_zeros 32 (255 - y)
  zeros-left =
      let (m, sum, holds, least) = length-left in
      elim (dec_le m 8) [
        | yes k ↦ omega arith
        | no k ↦ absurd (omega (arith, pow_mono {i = 9} {j = m} (omega arith)))
      ]

  pub leading_ones : Leading y (count_leading_zeros 32 (255 - y) - 24)
  leading_ones =
      let (m, sum, holds, least) = length-left in
      let e : count_leading_zeros 32 (255 - y) - 24 ≡ 8 - m = omega (arith, zeros-left) in
      rw e (ones-by y m h holds least)

-- the ways through `cut5`: m is n + 1
module _ (x n : ℕ) (some : 0 < n) (few : n < 8) where
  pub cut-is : x / 2 ^ (57 - 5 * (n + 1)) % (1 * 2 ^ (4 * (n + 1)) % 2 ^ 64) ≡ cut_groups x n
  unfolding cut_groups
  cut-is = rw (mask (4 * (n + 1)) (omega arith))

  pub cut_fits : x / 2 ^ (57 - 5 * (n + 1)) % (1 * 2 ^ (4 * (n + 1)) % 2 ^ 64) < 2 ^ 32
  cut_fits = rw (mask (4 * (n + 1)) (omega arith)) (lt_of_lt_of_le (mod-lt (x / 2 ^ (57 - 5 * (n + 1))) (pow_pos (4 * (n + 1)))) (pow_mono {i = 4 * (n + 1)} {j = 32} (omega arith)))

  module _ (v : ℕ) (p : Bits) (e : v ≡ cut_groups x n) where
    pub way-cut : number_is (Ok (record { value = v; next = p; short = not (eqb (v / 2 ^ (4 * n)) 0) })) ≡ got (cut_groups x n, p.0, is_short n (cut_groups x n))
    unfolding number_is
    way-cut = rw (← e) (elim (ℕ_discrete (v / 2 ^ (4 * n)) 0) [
      | yes z ↦ rw (eq-eqb _ _ z, short-not n v (λ o. omega arith) z)
      | no z ↦ rw (ne_eqb _ _ z, short-more n v (λ o. omega arith) z)
    ])

-- and through `any5`
pub way-five-before : (b : ℕ → ℕ) (wall at : ℕ) → wall < at → number_is (Err refusal.PastEnd) ≡ number5 b wall at
unfolding number_is
way-five-before b wall at h = sym (five-fault b wall at (ones-past b wall at 8 0 (omega arith) (omega arith)))

-- no one at all: the five bits are the window's first
zero-lead : (x : ℕ) → x < 2 ^ 56 → Leading (x / 2 ^ 49) 0
zero-lead x h = record { few = omega arith; ones = omega arith; then = λ l. omega arith }

module _ (s : List ℕ) (wall at x : ℕ) (h : at ≤ wall) (e : x ≡ num (bit_at s) at 57) where
  module _ (n : ℕ) (r : Leading (x / 2 ^ 49) n) where
    pub way-five-full : 8 ≤ n → 8 ≤ wall - at → number_is (Err refusal.TooLarge) ≡ number5 (bit_at s) wall at
    unfolding number_is
    way-five-full l k = sym (five-full s wall at n x e r l (omega arith))

    pub way-five-short : 8 ≤ n → wall - at < 8 → number_is (Err refusal.PastEnd) ≡ number5 (bit_at s) wall at
    unfolding number_is
    way-five-short l k = sym (five-short s wall at n x e r h (omega arith) k)

    pub way-five-off : n < 8 → wall - at < 5 * (n + 1) → number_is (Err refusal.PastEnd) ≡ number5 (bit_at s) wall at
    unfolding number_is
    way-five-off l k = elim (dec_le (wall - at) n) [
      | yes m ↦ sym (five-short s wall at n x e r h m (omega arith))
      | no m ↦ sym (five-cut-off s wall at n x e r l (omega arith) (omega arith))
    ]

    pub way-five-cut : (p : Bits) (q : Numbered) → n < 8 → 5 * (n + 1) ≤ wall - at → p.0 ≡ at + 5 * (n + 1)
        → number_is q ≡ got (cut_groups x n, p.0, is_short n (cut_groups x n)) → number_is q ≡ number5 (bit_at s) wall at
    way-five-cut p q l k f g = g ∙ rw f (sym (five-whole s wall at n x e r l (omega arith)))

  module _ (k : x < 2 ^ 56) where
    pub way-five-none : wall - at < 5 → number_is (Err refusal.PastEnd) ≡ number5 (bit_at s) wall at
    way-five-none l = way-five-off 0 (zero-lead x k) (omega arith) (omega arith)

    pub way-five-one : 5 ≤ wall - at → (p : Bits) → p.0 ≡ at + 5 → number_is (Ok (record { value = (x / 2 ^ 52); next = p; short = true })) ≡ number5 (bit_at s) wall at
    unfolding number_is cut_groups
    way-five-one l p f =
        let g : x / 2 ^ 52 % 2 ^ 4 ≡ x / 2 ^ 52 = omega arith in
        let w = five-whole s wall at 0 x e (zero-lead x k) (omega arith) (omega arith) in
        rw f (sym (w ∙ rw (g, short-one 0 (x / 2 ^ 52) refl)))
