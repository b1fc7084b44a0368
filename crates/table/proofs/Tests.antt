-- How the code goes through a list of tests: one after another up to one that fails.
use Prim.Native.Nat.{ℕ, suc, ◌+◌, ◌-◌, ◌≤◌, ◌<◌}
use mathlib.Core.Path.{◌≡◌, refl, sym, ◌∙◌}
use mathlib.Core.List.{List, [], ◌∷◌}
use mathlib.Core.Bool.{Bool, true, false, ◌&&◌, ◌||◌}
use native.Mathlib.Nat.{le_of_lt}
use native.Mathlib.Omega.{arith}
use borrow.Author.Tests.{lt-ltb, le-ltb, le-leb, lt-leb, eq-eqb, ne_eqb}
use lib.Dec.{leb}
use Rattle.table.specs.First.{Verdict, first}
use Rattle.table.specs.First.Verdict.{right, wrong}

pub none_left : (i : ℕ) → right ≡ first i []
unfolding first
none_left i = refl

pub fails : (i : ℕ) (x : Bool) (xs : List Bool) → x ≡ false → wrong i ≡ first i (x ∷ xs)
unfolding first
fails i x xs e = sym (rw e)

pub holds : (i : ℕ) (x : Bool) (xs : List Bool) (v : Verdict) → x ≡ true → v ≡ first (suc i) xs → v ≡ first i (x ∷ xs)
unfolding first
holds i x xs v e f = f ∙ sym (rw e)

-- tests joined
module _ (x y : Bool) where
  pub both_hold : x ≡ true → y ≡ true → (x && y) ≡ true
  both_hold e f = rw (e, f)

  pub left-fails : x ≡ false → (x && y) ≡ false
  left-fails e = rw e

  pub right-fails : x ≡ true → y ≡ false → (x && y) ≡ false
  right-fails e f = rw (e, f)

  pub left-holds : x ≡ true → (x || y) ≡ true
  left-holds e = rw e

  pub right-holds : x ≡ false → y ≡ true → (x || y) ≡ true
  right-holds e f = rw (e, f)

  pub neither-holds : x ≡ false → y ≡ false → (x || y) ≡ false
  neither-holds e f = rw (e, f)

-- tests that the code makes in other words
pub none-under : (x : ℕ) → x ≡ 0 → leb 1 x ≡ false
none-under x e = lt-leb 1 x (omega arith)

pub some-under : (x : ℕ) → (x ≡ 0 → ⊥) → leb 1 x ≡ true
some-under x e = le-leb 1 x (omega arith)

pub sum-within : (x y n : ℕ) → x ≤ n → y ≤ n - x → leb (x + y) n ≡ true
sum-within x y n h g = le-leb (x + y) n (omega arith)

pub sum_over : (x y n : ℕ) → x ≤ n → n - x < y → leb (x + y) n ≡ false
sum_over x y n h g = lt-leb (x + y) n (omega arith)

pub ruleset test-ways = (
  none_left,
  fails,
  holds,
  both_hold,
  left-fails,
  right-fails,
  left-holds,
  right-holds,
  neither-holds,
  none-under,
  some-under,
  sum-within,
  sum_over,
  le_of_lt,
  lt-ltb,
  le-ltb,
  le-leb,
  lt-leb,
  eq-eqb,
  ne_eqb,
)
