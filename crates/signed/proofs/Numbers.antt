-- The definitions on words are those of the signed numbers that the words stand for: the theorems that make the definitions believable.
use Prim.Native.Nat.{ℕ, zero, suc, ◌+◌, ◌-◌, ◌%◌, ◌^◌, ◌<◌, ◌≤◌}
use mathlib.Core.Path.{◌≡◌, refl, sym, ap, ap₂, ◌∙◌}
use native.Mathlib.Omega.{arith}
use lib.IntN.{ℤ, pos, negsuc, neg_ℤ, sub_ℕ, ◌+ℤ◌, ◌-ℤ◌, +ℤ_assoc, +ℤ_comm, neg_ℤ-+ℤ, +ℤ-neg_ℤ_cancel}
use borrow.Author.Tests.{lt-ltb, le-ltb}
use mir.Syntax.{w32}
use mir.Val.{to_z}
use mir.Facts.{to_z_pos}
use Rattle.signed.specs.Words.{rank, gap_of, up, down, sign_of, magnitude_of, word_of, wrapped}
use Rattle.signed.proofs.Laws.{ordered, gap-over, gap-under, gap-small, gap_down, sign_low, sign_high, magnitude-low, magnitude-high, word-plus, word-minus}
use Rattle.signed.specs.Numbers.{gap_as, number}

-- the difference of two natural numbers
module _ (a b : ℕ) where
  pub sub-over : b ≤ a → sub_ℕ a b ≡ pos (a - b)
  sub-over h = simp (le-ltb a b h)

  pub sub-under : a < b → sub_ℕ a b ≡ negsuc (b - suc a)
  sub-under h = simp (lt-ltb a b h)

pos-less : (a b : ℕ) → pos a -ℤ pos b ≡ sub_ℕ a b
pos-less a zero = ap pos (omega arith) ∙ sym (sub-over a 0 (omega arith))
pos-less a (suc b) = refl

-- the two halves of the words
pub low : (w : ℕ) → w < 2 ^ 31 → to_z w32 w ≡ pos w
low w h = to_z_pos w32 h

pub high : (w : ℕ) → 2 ^ 31 ≤ w → to_z w32 w ≡ negsuc (2 ^ 32 - suc w)
high w h = simp (le-ltb w (2 ^ 31) h)

-- a word's rank is its number, counted from the lowest: so ranks are ordered as the numbers are
pub rank-number : (w : ℕ) → w < 2 ^ 32 → pos (rank w) ≡ to_z w32 w +ℤ pos (2 ^ 31)
rank-number w h =
    ordered w (2 ^ 31)
    (λ l. rw (low w l) (ap pos (omega arith)))
    (λ l. rw (high w l) (sym (sub-over (2 ^ 31) (suc (2 ^ 32 - suc w)) (omega arith) ∙ ap pos (omega arith))))

shifted : (x y h : ℤ) → (x +ℤ h) -ℤ (y +ℤ h) ≡ x -ℤ y
shifted x y h =
    ap (λ z. (x +ℤ h) +ℤ z) (neg_ℤ-+ℤ y h ∙ +ℤ_comm (neg_ℤ y) (neg_ℤ h))
    ∙ sym (+ℤ_assoc (x +ℤ h) (neg_ℤ h) (neg_ℤ y))
    ∙ ap (λ z. z +ℤ neg_ℤ y) (+ℤ-neg_ℤ_cancel x h)

-- the difference of two words' numbers is that of their ranks
pub number-difference : (b c : ℕ) → b < 2 ^ 32 → c < 2 ^ 32 → to_z w32 c -ℤ to_z w32 b ≡ sub_ℕ (rank c) (rank b)
number-difference b c hb hc =
    sym (shifted (to_z w32 c) (to_z w32 b) (pos (2 ^ 31)))
    ∙ sym (ap₂ (λ y x. y -ℤ x) (rank-number c hc) (rank-number b hb))
    ∙ pos-less (rank c) (rank b)

-- a gap is the difference of the signed numbers
pub gap-difference : (b c : ℕ) → b < 2 ^ 32 → c < 2 ^ 32 → gap_of b c ≡ gap_as (to_z w32 c -ℤ to_z w32 b)
gap-difference b c hb hc =
    ordered (rank c) (rank b)
    (λ h. gap-under b c h ∙ sym (ap gap_as (number-difference b c hb hc ∙ sub-under (rank c) (rank b) h)))
    (λ h. gap-over b c h ∙ sym (ap gap_as (number-difference b c hb hc ∙ sub-over (rank c) (rank b) h)))

-- a word's number is its magnitude, with its sign
pub number-of-parts : (w : ℕ) → w < 2 ^ 32 → to_z w32 w ≡ number (sign_of w) (magnitude_of w)
unfolding number
number-of-parts w h =
    ordered w (2 ^ 31)
    (λ l. low w l ∙ sym (ap₂ number (sign_low w l) (magnitude-low w l)))
    (λ l.
    let m : magnitude_of w ≡ suc (2 ^ 32 - suc w) = magnitude-high w l ∙ omega arith in
    high w l ∙ sym (ap₂ number (sign_high w l) m)
    )

-- wrapping gives a word back from its number, and does not see whole turns of 2 ^ 32: so it is the number modulo 2 ^ 32
pub wrapped-number : (w : ℕ) → w < 2 ^ 32 → wrapped (to_z w32 w) ≡ w
unfolding wrapped
wrapped-number w h =
    ordered w (2 ^ 31) (λ l. rw (low w l) (omega arith)) (λ l. rw (high w l) (omega arith))

pub wrapped-turn : (z : ℤ) → wrapped (z +ℤ pos (2 ^ 32)) ≡ wrapped z
unfolding wrapped
wrapped-turn (pos n) = omega arith
wrapped-turn (negsuc n) =
    ordered (2 ^ 32) (suc n)
    (λ h. ap wrapped (sub-under (2 ^ 32) (suc n) h) ∙ omega arith)
    (λ h. ap wrapped (sub-over (2 ^ 32) (suc n) h) ∙ omega arith)

-- a word moved up is the word of the sum
pub wrapped_sum : (b k : ℕ) → b < 2 ^ 32 → wrapped (to_z w32 b +ℤ pos k) ≡ up b k
unfolding wrapped
wrapped_sum b k h =
    ordered b (2 ^ 31)
    (λ l. rw (low b l))
    (λ l.
    ordered k (suc (2 ^ 32 - suc b))
    (λ u. ap (λ z. wrapped (z +ℤ pos k)) (high b l) ∙ ap wrapped (sub-under k _ u) ∙ omega arith)
    (λ o. ap (λ z. wrapped (z +ℤ pos k)) (high b l) ∙ ap wrapped (sub-over k _ o) ∙ omega arith)
    )

under-word : (r s : ℕ) → r < s → s < 2 ^ 32 → 2 ^ 32 - suc ((s - suc r) % 2 ^ 32) ≡ 2 ^ 32 - (s - r)
under-word r s h k = omega arith

small_word : (k : ℕ) → k < 2 ^ 32 → k % 2 ^ 32 ≡ k
small_word k h = omega arith

-- the ranks of two words, one under the other, in terms of the words
module _ (b v r s : ℕ) (hb : b < 2 ^ 32) (hv : v < 2 ^ 32) (h : r < s) (k : s < 2 ^ 32) where
  under_same : r + b ≡ s + v → 2 ^ 32 - (s - r) ≡ down b v
  under_same e = omega arith

  under-turn : r + b + 2 ^ 32 ≡ s + v → 2 ^ 32 - (s - r) ≡ down b v
  under-turn e = omega arith

  under_back : r + b ≡ s + v + 2 ^ 32 → 2 ^ 32 - (s - r) ≡ down b v
  under_back e = omega arith

under-ranks : (b v : ℕ) → b < 2 ^ 32 → v < 2 ^ 32 → rank v < rank b → 2 ^ 32 - (rank b - rank v) ≡ down b v
under-ranks b v hb hv h =
    ordered b (2 ^ 31)
    (λ l. ordered v (2 ^ 31) (λ m. under_same b v (rank v) (rank b) hb hv h (omega arith) (omega arith)) (λ m. under-turn b v (rank v) (rank b) hb hv h (omega arith) (omega arith)))
    (λ l. ordered v (2 ^ 31) (λ m. under_back b v (rank v) (rank b) hb hv h (omega arith) (omega arith)) (λ m. under_same b v (rank v) (rank b) hb hv h (omega arith) (omega arith)))

-- a word moved down is the word of the difference
pub wrapped-difference : (b v : ℕ) → b < 2 ^ 32 → v < 2 ^ 32 → wrapped (to_z w32 v -ℤ to_z w32 b) ≡ down b v
unfolding wrapped
wrapped-difference b v hb hv =
    ap wrapped (number-difference b v hb hv)
    ∙ ordered (rank v) (rank b)
    (λ u. ap wrapped (sub-under (rank v) (rank b) u) ∙ under-word (rank v) (rank b) u (omega arith) ∙ under-ranks b v hb hv u)
    (λ o.
    let k = rank v - rank b in
    let e = gap-over b v o in
    ap wrapped (sub-over (rank v) (rank b) o) ∙ small_word k (gap-small b v hb hv k e) ∙ sym (gap_down b v hb hv k e)
    )

-- the word of a sign and a magnitude is that of their number
pub wrapped-plus : (m : ℕ) → m < 2 ^ 32 → wrapped (pos m) ≡ word_of 0 m
unfolding wrapped
wrapped-plus m h = omega arith ∙ sym (word-plus m)

pub wrapped-minus : (m : ℕ) → m < 2 ^ 32 → wrapped (pos 0 -ℤ pos m) ≡ word_of 1 m
unfolding wrapped
wrapped-minus zero h = sym (word-minus 0)
wrapped-minus (suc m) h = ap wrapped (sub-under 0 (suc m) (omega arith)) ∙ (omega arith) ∙ sym (word-minus (suc m))
