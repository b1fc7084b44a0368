-- The laws of gaps, of words moved up and down, and of sign and magnitude, all on natural numbers: what callers cite.
use Prim.Native.Nat.{ℕ, ◌-◌, ◌%◌, ◌^◌, ◌<◌, ◌≤◌}
use mathlib.Core.Path.{◌≡◌, refl, sym, ap, ◌∙◌}
use mathlib.Core.Bool.{Bool, true, false}
use mathlib.Core.Logic.{◌⊎◌, inl, inr}
use native.Mathlib.Omega.{arith}
use lib.Dec.{ltb}
use borrow.Author.Tests.{lt-ltb, le-ltb, ltb-true, ltb-false}
use Rattle.std.specs.Prelude.{Option, Some, None}
use Rattle.signed.specs.Words.{rank, under, by, gap_of, down, sign_of, magnitude_of, word_of}
use Rattle.signed.specs.Views.{gap_is, bit, Parts}

-- two numbers stand in one of two orders
pub ordered : {P : Type 0} (a b : ℕ) → (a < b → P) → (b ≤ a → P) → P
ordered {P} a b f g = at (ltb a b) refl
  where
    at : (t : Bool) → ltb a b ≡ t → P
    at true e = f (ltb-true a b e)
    at false e = g (ltb-false a b e)

-- a gap and the ranks of its ends
module _ (b c : ℕ) where
  pub gap-over : rank b ≤ rank c → gap_of b c ≡ by (rank c - rank b)
  unfolding gap_of
  gap-over h = rw (le-ltb (rank c) (rank b) h)

  pub gap-under : rank c < rank b → gap_of b c ≡ under
  unfolding gap_of
  gap-under h = rw (lt-ltb (rank c) (rank b) h)

  pub over-gap : (k : ℕ) → gap_of b c ≡ by k → (rank b ≤ rank c) × (k ≡ rank c - rank b)
  over-gap k e =
      ordered (rank c) (rank b)
      (λ h. let u = gap-under h in let z : ◌≡◌ {A = ℕ} 0 1 = cc in omega arith)
      (λ h. let o = gap-over h in (h, cc))

  pub under-gap : gap_of b c ≡ under → rank c < rank b
  under-gap e =
      ordered (rank c) (rank b) (λ h. h) (λ h. let o = gap-over h in let z : ◌≡◌ {A = ℕ} 0 1 = cc in omega arith)

-- a gap and the words of its ends
module _ (b v : ℕ) (hb : b < 2 ^ 32) (hv : v < 2 ^ 32) (k : ℕ) (e : gap_of b v ≡ by k) where
  pub gap-small : k < 2 ^ 32
  gap-small = omega (arith, over-gap b v k e)

  pub gap_down : down b v ≡ k
  gap_down = omega (arith, over-gap b v k e)

-- what a match on the code's answer tells
module _ (b c : ℕ) (r : Option ℕ) (e : gap_is r ≡ gap_of b c) where
  pub met_by : (k : ℕ) → r ≡ Some k → gap_of b c ≡ by k
  met_by k w = sym e ∙ ap gap_is w

  pub met-under : r ≡ None → gap_of b c ≡ under
  met-under w = sym e ∙ ap gap_is w

module _ {w : ℕ} {n : Bool} {m : ℕ} (p : Parts w n m) where
  pub met-minus : n ≡ true → sign_of w ≡ 1
  met-minus t = sym p.sign_is ∙ ap bit t

  pub met-plus : n ≡ false → sign_of w ≡ 0
  met-plus t = sym p.sign_is ∙ ap bit t

-- sign and magnitude of a word in either half
module _ (w : ℕ) where
  pub sign_low : w < 2 ^ 31 → sign_of w ≡ 0
  unfolding sign_of
  sign_low h = rw (lt-ltb w (2 ^ 31) h)

  pub sign_high : 2 ^ 31 ≤ w → sign_of w ≡ 1
  unfolding sign_of
  sign_high h = rw (le-ltb w (2 ^ 31) h)

  pub magnitude-low : w < 2 ^ 31 → magnitude_of w ≡ w
  unfolding magnitude_of
  magnitude-low h = rw (lt-ltb w (2 ^ 31) h)

  pub magnitude-high : 2 ^ 31 ≤ w → magnitude_of w ≡ 2 ^ 32 - w
  unfolding magnitude_of
  magnitude-high h = rw (le-ltb w (2 ^ 31) h)

-- the word of a sign and a magnitude
pub word-plus : (m : ℕ) → word_of 0 m ≡ m
unfolding word_of
word-plus m = refl

pub word-minus : (m : ℕ) → word_of 1 m ≡ (2 ^ 32 - m) % 2 ^ 32
unfolding word_of
word-minus m = refl

-- a word is the word of its sign and its magnitude
pub word-of-parts : (w : ℕ) → w < 2 ^ 32 → word_of (sign_of w) (magnitude_of w) ≡ w
word-of-parts w h =
    ordered w (2 ^ 31)
    (λ l. rw (sign_low w l, magnitude-low w l, word-plus w))
    (λ l. rw (sign_high w l, magnitude-high w l, word-minus (2 ^ 32 - w)) (omega arith))

-- a word's magnitude lies within its sign's limit, and none is minus zero
pub parts_within : (w : ℕ) → w < 2 ^ 32 → ((sign_of w ≡ 0) × (magnitude_of w < 2 ^ 31)) ⊎ ((sign_of w ≡ 1) × (1 ≤ magnitude_of w) × (magnitude_of w ≤ 2 ^ 31))
parts_within w h =
    ordered w (2 ^ 31)
    (λ l. inl (sign_low w l, rw (magnitude-low w l) l))
    (λ l. inr (sign_high w l, rw (magnitude-high w l) (omega arith), rw (magnitude-high w l) (omega arith)))

-- a sign and a magnitude are those of their word: 0 to 2 ^ 31 - 1, and -1 to -2 ^ 31
module _ (m : ℕ) where
  module _ (h : m < 2 ^ 31) where
    pub sign-of-plus : sign_of (word_of 0 m) ≡ 0
    sign-of-plus = rw (word-plus m) (sign_low m h)

    pub magnitude-of-plus : magnitude_of (word_of 0 m) ≡ m
    magnitude-of-plus = rw (word-plus m) (magnitude-low m h)

  module _ (l : 1 ≤ m) (h : m ≤ 2 ^ 31) where
    pub sign-of-minus : sign_of (word_of 1 m) ≡ 1
    sign-of-minus = rw (word-minus m) (sign_high _ (omega arith))

    pub magnitude-of-minus : magnitude_of (word_of 1 m) ≡ m
    magnitude-of-minus = rw (word-minus m) (magnitude-high _ (omega arith) ∙ omega arith)
