-- A copy into a line, turn by turn; and that the fewest digits of a number are its decimal.
use Prim.Native.Nat.{ℕ, zero, suc, ◌*◌, ◌-◌, ◌/◌, ◌^◌, ◌≤◌, ◌<◌}
use mathlib.Core.Path.{◌≡◌, refl, sym, ap, ◌∙◌}
use mathlib.Core.List.{List, ◌++◌}
use mathlib.Core.Bool.{Bool, true, false, cond}
use native.Mathlib.Omega.{arith}
use native.Mathlib.Nat.{pow-suc}
use borrow.Author.Tests.{lt-ltb, le-ltb}
use lib.Dec.{ltb}
use lib.ListN.{length}
use lib.Seq.{length-take-le}
use Rattle.list.specs.Digits.{IsPrefixLen, last_digits, IsDigitCount}
use Rattle.signed.proofs.Laws.{ordered}
use Rattle.list.specs.Text.{places, decimal}

-- a power of ten is 10 or more
ten : (k : ℕ) → 10 ≤ 10 ^ suc k
ten zero = omega arith
ten (suc k) = let h = ten k in omega (arith, pow-suc 10 (suc k))

one-digit : (n k : ℕ) → n < 10 → IsDigitCount 10 1 n k → k ≡ 1
one-digit n zero h f = absurd (omega arith)
one-digit n (suc zero) h f = refl
one-digit n (suc (suc k)) h f =
    let e : suc (suc k) - 1 ≡ suc k = omega arith in
    let g : 10 ^ suc k ≤ n = rw e at (f.2 (omega arith)) in
    absurd (omega (arith, ten k))

-- one digit less for a tenth of the number
tenth : (n k : ℕ) → 10 ≤ n → IsDigitCount 10 1 n (suc (suc k)) → IsDigitCount 10 1 (n / 10) (suc k)
tenth n k h f =
    let e : suc (suc k) - 1 ≡ suc k = omega arith in
    let g : 10 ^ suc k ≤ n = rw e at (f.2 (omega arith)) in
    let u : n < 10 ^ suc k * 10 = rw (pow-suc 10 (suc k)) at f.1 in
    let least : 1 < suc k → 10 ^ (suc k - 1) ≤ n / 10 = λ i. let d : suc k - 1 ≡ k = omega arith in rw d (omega (arith, pow-suc 10 k)) in
    (omega arith, omega arith, least)

-- by the number of digits
module _ (f n : ℕ) (h : 10 ≤ n) (less : (k : ℕ) → IsDigitCount 10 1 (n / 10) k → k ≡ places f (n / 10)) where
  digit-more : (k : ℕ) → IsDigitCount 10 1 n k → k ≡ suc (places f (n / 10))
  digit-more zero x = absurd (omega arith)
  digit-more (suc zero) x = absurd (omega (arith, x.1))
  digit-more (suc (suc k)) x = ap suc (less (suc k) (tenth n k h x))

places-are : (f n k : ℕ) → n < 10 ^ suc f → IsDigitCount 10 1 n k → k ≡ places f n
unfolding places
places-are zero n k h e = one-digit n k h e
places-are (suc f) n k h e =
    ordered n 10 (λ g. one-digit n k g e ∙ sym (rw (lt-ltb n 10 g)))
    (λ g. digit-more f n g (λ j x. places-are f (n / 10) j (omega (arith, pow-suc 10 (suc f))) x) k e ∙ sym (rw (le-ltb n 10 g)))

pub decimal-is : (n k : ℕ) → n < 2 ^ 64 → IsDigitCount 10 1 n k → last_digits 10 k n ≡ decimal n
unfolding decimal
decimal-is n k h e = ap (λ (j : ℕ). last_digits 10 j n) (places-are 19 n k (omega arith) e)

-- a line, part by part: t is u and then y, and u is x
pub link : (t u x y : List ℕ) → t ≡ u ++ y → u ≡ x → t ≡ x ++ y
link t u x y e f = e ∙ ap (λ (z : List ℕ). z ++ y) f

pub counted : (r : ℕ) (o : List ℕ) → r ≤ length o → IsPrefixLen r o
counted r o h = (h, sym (length-take-le r o h))

either : (x : Bool) (p f : ℕ) → p ≤ suc f → cond x 1 (suc p) ≤ suc (suc f)
either true p f h = omega arith
either false p f h = omega arith

places-most : (f n : ℕ) → places f n ≤ suc f
unfolding places
places-most zero n = omega arith
places-most (suc f) n = either (ltb n 10) (places f (n / 10)) f (places-most f (n / 10))

-- at most 20 digits
pub few-digits : (n k : ℕ) → n < 2 ^ 64 → IsDigitCount 10 1 n k → k ≤ 20
few-digits n k h e = omega (arith, places-are 19 n k (omega arith) e, places-most 19 n)
