-- Years, counted from March, by the days before them: February ends one, and is a day longer in a leap year.
use Prim.Native.Nat.{ℕ, ◌+◌, ◌-◌, ◌*◌, ◌/◌, ◌%◌, ◌≤◌}
use mathlib.Core.Path.{◌≡◌, refl}
use mathlib.Core.Bool.{Bool, true, false, cond}
use native.Mathlib.Omega.{arith}
use borrow.Author.Tests.{eqb-true, eqb-false}
use lib.Dec.{eqb}
use Rattle.calendar.specs.Plain.{leap}
use Rattle.calendar.specs.Formulas.{year_start}

-- the days of February
abbrev pub february : ℕ → ℕ
february y = cond (leap y) 29 28

-- whether the next number begins a new four, hundred, four hundred
record Onward (now next rest : ℕ) : Type 0 where
  new : rest ≡ 0 → next ≡ now + 1
  old : (rest ≡ 0 → ⊥) → next ≡ now

fours : (y : ℕ) → Onward (y / 4) ((y + 1) / 4) ((y + 1) % 4)
fours y = record { new = λ e. omega arith; old = λ e. omega arith }

hundreds : (y : ℕ) → Onward (y / 100) ((y + 1) / 100) ((y + 1) % 100)
hundreds y = record { new = λ e. omega arith; old = λ e. omega arith }

four-hundreds : (y : ℕ) → Onward (y / 400) ((y + 1) / 400) ((y + 1) % 400)
four-hundreds y = record { new = λ e. omega arith; old = λ e. omega arith }

fewer : (y : ℕ) → y / 100 ≤ y
fewer y = omega arith

hundred-four : (y : ℕ) → y % 100 ≡ 0 → y % 4 ≡ 0
hundred-four y e = omega arith

hundred-more : (y : ℕ) → y % 400 ≡ 0 → y % 100 ≡ 0
hundred-more y e = omega arith

pub year-ends : (y : ℕ) → year_start y + (337 + february (y + 1)) ≡ year_start (y + 1)
unfolding year_start leap
year-ends y = go (eqb ((y + 1) % 100) 0) (eqb ((y + 1) % 400) 0) (eqb ((y + 1) % 4) 0) refl refl refl
  where
    sum : (f a b c a' b' c' : ℕ) → b ≤ y → b' ≤ y + 1 → f + a + c + b' ≡ 28 + a' + c' + b
        → 365 * y + a + c - b + (337 + f) ≡ 365 * (y + 1) + a' + c' - b'
    sum f a b c a' b' c' h k e = omega arith

    go : (a b c : Bool) → eqb ((y + 1) % 100) 0 ≡ a → eqb ((y + 1) % 400) 0 ≡ b → eqb ((y + 1) % 4) 0 ≡ c
        → 365 * y + y / 4 + y / 400 - y / 100 + (337 + cond (cond a b c) 29 28) ≡ 365 * (y + 1) + (y + 1) / 4 + (y + 1) / 400 - (y + 1) / 100
    go true true c p q r =
        let h = eqb-true ((y + 1) % 100) 0 p in
        let n = (hundreds y).new h in
        let f = (fours y).new (hundred-four (y + 1) h) in
        let g = (four-hundreds y).new (eqb-true ((y + 1) % 400) 0 q) in
        sum 29 _ _ _ _ _ _ (fewer y) (fewer (y + 1)) (rw (n, f, g) (omega arith))
    go true false c p q r =
        let h = eqb-true ((y + 1) % 100) 0 p in
        let n = (hundreds y).new h in
        let f = (fours y).new (hundred-four (y + 1) h) in
        let g = (four-hundreds y).old (eqb-false ((y + 1) % 400) 0 q) in
        sum 28 _ _ _ _ _ _ (fewer y) (fewer (y + 1)) (rw (n, f, g) (omega arith))
    go false b true p q r =
        let h = eqb-false ((y + 1) % 100) 0 p in
        let n = (hundreds y).old h in
        let f = (fours y).new (eqb-true ((y + 1) % 4) 0 r) in
        let g = (four-hundreds y).old (λ e. h (hundred-more (y + 1) e)) in
        sum 29 _ _ _ _ _ _ (fewer y) (fewer (y + 1)) (rw (n, f, g) (omega arith))
    go false b false p q r =
        let h = eqb-false ((y + 1) % 100) 0 p in
        let n = (hundreds y).old h in
        let f = (fours y).old (eqb-false ((y + 1) % 4) 0 r) in
        let g = (four-hundreds y).old (λ e. h (hundred-more (y + 1) e)) in
        sum 28 _ _ _ _ _ _ (fewer y) (fewer (y + 1)) (rw (n, f, g) (omega arith))
