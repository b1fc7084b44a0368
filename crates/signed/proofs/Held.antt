-- A number in an i64 local: small ones are held as they are.
use Prim.Native.Nat.{ℕ, zero, suc, ◌+◌, ◌^◌, ◌<◌, ◌≤◌}
use mathlib.Core.Path.{◌≡◌, ap, ◌∙◌}
use native.Mathlib.Omega.{arith}
use lib.IntN.{ℤ, pos, negsuc, neg_ℤ, nat_abs, sub_ℕ, ◌+ℤ◌}
use mir.Syntax.{w32, w64}
use mir.Val.{Fits, SFits, to_z, of_z}
use mir.Facts.{to_z-of_z, sfits_to_z, sfits_widen}
use Rattle.signed.proofs.Laws.{ordered}
use Rattle.signed.proofs.Numbers.{sub-over, sub-under}

-- what is read back from the bits of a number
abbrev pub held : ℤ → ℤ
held z = to_z w64 (of_z w64 z)

pub small-fits : (z : ℤ) → nat_abs z < 2 ^ 33 → SFits w64 z
small-fits (pos n) h = record { sfits = omega arith }
small-fits (negsuc n) h = record { sfits = omega arith }

pub small-held : (z : ℤ) → nat_abs z < 2 ^ 33 → held z ≡ z
small-held z h = to_z-of_z (small-fits z h)

-- a word's number, as `value` gives it
pub value-held : (w : ℕ) → Fits w32 w → (x : ℤ) → x ≡ to_z w32 w → held x ≡ to_z w32 w
value-held w f x e = ap held e ∙ to_z-of_z {w = w64} (sfits_widen {w = w32} (tt {0}) (sfits_to_z f))

-- a difference of naturals is no larger than the larger, 0 less one no larger than it, and a sum no larger than its parts together
pub sub_small : (a b n : ℕ) → a ≤ n → b ≤ n → nat_abs (sub_ℕ a b) ≤ n
sub_small a b n ha hb =
    ordered a b (λ h. rw (sub-under a b h) (omega arith)) (λ h. rw (sub-over a b h) (omega arith))

pub minus-small : (n : ℕ) → nat_abs (neg_ℤ (pos n)) ≤ n
minus-small zero = omega arith
minus-small (suc n) = omega arith

sum-small : (x y : ℤ) → nat_abs (x +ℤ y) ≤ nat_abs x + nat_abs y
sum-small (pos a) (pos b) = omega arith
sum-small (pos a) (negsuc b) = sub_small a (suc b) (a + suc b) (omega arith) (omega arith)
sum-small (negsuc a) (pos b) = sub_small b (suc a) (suc a + b) (omega arith) (omega arith)
sum-small (negsuc a) (negsuc b) = omega arith

-- so a sum of two numbers of a word's size fits
pub sum_fits : (x y : ℤ) → nat_abs x < 2 ^ 32 → nat_abs y ≤ 2 ^ 32 → SFits w64 (x +ℤ y)
sum_fits x y hx hy = small-fits (x +ℤ y) (omega (arith, sum-small x y))
