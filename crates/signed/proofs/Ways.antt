-- Each way through the functions, as the code goes it.
use Prim.Native.Nat.{ℕ, ◌-◌, ◌%◌, ◌^◌, ◌<◌}
use mathlib.Core.Path.{◌≡◌, sym, ap, ap₂, ◌∙◌}
use mathlib.Core.Bool.{Bool, true, false}
use native.Mathlib.Omega.{arith}
use borrow.Author.Tests.{le-ltb}
use lib.IntN.{ℤ, pos, negsuc, neg_ℤ, nat_abs, ◌+ℤ◌, ◌-ℤ◌}
use lib.Signed.{lt_z}
use mir.Syntax.{w32, w64}
use mir.Val.{Fits, SFits, to_z, of_z}
use mir.Facts.{to_z-of_z}
use Rattle.signed.specs.Words.{rank, up, down, word_of, wrapped}
use Rattle.signed.specs.Views.{bit, Parts}
use Rattle.signed.proofs.Laws.{ordered, sign_low, sign_high, magnitude-low, magnitude-high}
use Rattle.signed.proofs.Numbers.{low, high, number-difference, wrapped_sum, wrapped-difference, wrapped-plus, wrapped-minus}
use Rattle.signed.proofs.Held.{held, small-held, value-held, sub_small, minus-small, sum_fits}

-- word: the bits of a number, of which the low half stays
pub word_bits : (v : ℤ) → SFits w64 v → of_z w64 v % 2 ^ 32 ≡ wrapped v
unfolding wrapped
word_bits (pos n) f = omega (arith, f.sfits)
word_bits (negsuc n) f = omega (arith, f.sfits)

-- lowered: the difference of the two numbers fits
module _ (b c : ℕ) (fb : Fits w32 b) (fc : Fits w32 c) (x y : ℤ) (ex : x ≡ to_z w32 c) (ey : y ≡ to_z w32 b) where
  taken : held x -ℤ held y ≡ to_z w32 c -ℤ to_z w32 b
  taken = ap₂ (λ p q. p -ℤ q) (value-held c fc x ex) (value-held b fb y ey)

  taken-small : nat_abs (held x -ℤ held y) < 2 ^ 32
  taken-small =
      rw (taken ∙ number-difference b c fb.fits fc.fits)
      (omega (arith, sub_small (rank c) (rank b) (2 ^ 32 - 1) (omega arith) (omega arith)))

  pub lowered-way : (r : ℕ) → r ≡ wrapped (held (held x -ℤ held y)) → r ≡ down b c
  lowered-way r e =
      e ∙ ap wrapped (small-held _ (omega (arith, taken-small)) ∙ taken) ∙ wrapped-difference b c fb.fits fc.fits

-- raised: so does the sum
module _ (b k : ℕ) (fb : Fits w32 b) (fk : Fits w32 k) (x z : ℤ) (ex : x ≡ to_z w32 b) (ez : z ≡ pos k) where
  number_small : nat_abs (to_z w32 b) < 2 ^ 32
  number_small =
      let h : b < 2 ^ 32 = fb.fits in
      ordered b (2 ^ 31) (λ l. rw (low b l) (omega arith)) (λ l. rw (high b l) (omega arith))

  pub raised-way : (r : ℕ) → r ≡ wrapped (held (held x +ℤ held z)) → r ≡ up b k
  raised-way r e =
      let h : k < 2 ^ 32 = fk.fits in
      let w : held z ≡ pos k = ap held ez ∙ small-held (pos k) (omega arith) in
      let s : held x +ℤ held z ≡ to_z w32 b +ℤ pos k = ap₂ (λ p q. p +ℤ q) (value-held b fb x ex) w in
      e
      ∙ ap wrapped (ap held s ∙ to_z-of_z (sum_fits (to_z w32 b) (pos k) number_small (omega arith)))
      ∙ wrapped_sum b k fb.fits

-- magnitude: the number of a word in either half
pub parts-way : (w : ℕ) → Fits w32 w → (x : ℤ) → x ≡ to_z w32 w → Parts w (lt_z (held x) (pos 0)) (nat_abs (held x))
parts-way w f x e =
    let h : w < 2 ^ 32 = f.fits in
    ordered w (2 ^ 31)
    (λ l. rw (value-held w f x e ∙ low w l, le-ltb w 0 (omega arith)) (record { sign_is = sym (sign_low w l); magnitude_is = sym (magnitude-low w l) }))
    (λ l.
    rw (value-held w f x e ∙ high w l)
    (record { sign_is = sym (sign_high w l); magnitude_is = omega arith ∙ sym (magnitude-high w l) })
    )

-- with_sign: the magnitude, or what lies so far under 0
module _ (m : ℕ) (f : Fits w32 m) (x : ℤ) (e : x ≡ pos m) (n : Bool) (r : ℕ) where
  plain : held x ≡ pos m
  plain = let h : m < 2 ^ 32 = f.fits in ap held e ∙ small-held (pos m) (omega arith)

  pub sign-minus : n ≡ true → r ≡ wrapped (held (pos 0 -ℤ held x)) → r ≡ word_of (bit n) m
  sign-minus t g =
      let h : m < 2 ^ 32 = f.fits in
      rw t
      (g
      ∙ ap wrapped (ap (λ z. held (pos 0 -ℤ z)) plain ∙ to_z-of_z (sum_fits (pos 0) (neg_ℤ (pos m)) (omega arith) (omega (arith, minus-small m))))
      ∙ wrapped-minus m h)

  pub sign-plus : n ≡ false → r ≡ wrapped (held x) → r ≡ word_of (bit n) m
  sign-plus t g = rw t (g ∙ ap wrapped plain ∙ wrapped-plus m f.fits)

pub ruleset ways = (lowered-way, raised-way, sign-minus, sign-plus)
