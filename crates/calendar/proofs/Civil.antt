-- The formulas find the date again from the days before it: first the century, then the year of it, then month and day.
use Prim.Native.Nat.{ℕ, ◌+◌, ◌-◌, ◌*◌, ◌/◌, ◌%◌, ◌<◌, ◌≤◌}
use mathlib.Core.Path.{◌≡◌, refl}
use mathlib.Core.Bool.{Bool, true, false, cond}
use mathlib.Core.Logic.{◌⊎◌, inl, inr, ⊎_elim}
use native.Mathlib.Omega.{arith}
use borrow.Author.Tests.{eqb-true, eqb-false}
use lib.Dec.{eqb}
use Rattle.calendar.specs.Plain.{date, leap, days_in}
use Rattle.calendar.specs.Formulas.{year_start, yearly, civil, days_to}
use Rattle.calendar.proofs.Years.{february}
use Rattle.calendar.proofs.March.{marched}

-- a year of 365 days, or of 366 where the next one is a leap year
leap-last : (Y passed : ℕ) → passed < 337 + february (Y + 1)
    → (passed ≤ 364) ⊎ ((passed ≡ 365) × (Y % 4 ≡ 3) × (Y % 100 ≡ 99 → Y % 400 ≡ 399))
unfolding leap
leap-last Y passed h = go (eqb ((Y + 1) % 100) 0) (eqb ((Y + 1) % 400) 0) (eqb ((Y + 1) % 4) 0) refl refl refl h
  where
    or-last : passed ≤ 365 → (Y % 4 ≡ 3) → (Y % 100 ≡ 99 → Y % 400 ≡ 399) → (passed ≤ 364) ⊎ ((passed ≡ 365) × (Y % 4 ≡ 3) × (Y % 100 ≡ 99 → Y % 400 ≡ 399))
    or-last k e f = split (eqb passed 365) refl
      where
        split : (t : Bool) → eqb passed 365 ≡ t → (passed ≤ 364) ⊎ ((passed ≡ 365) × (Y % 4 ≡ 3) × (Y % 100 ≡ 99 → Y % 400 ≡ 399))
        split true z = inr (eqb-true passed 365 z, e, f)
        split false z = inl (omega (arith, eqb-false passed 365 z))

    go : (a b c : Bool) → eqb ((Y + 1) % 100) 0 ≡ a → eqb ((Y + 1) % 400) 0 ≡ b → eqb ((Y + 1) % 4) 0 ≡ c → passed < 337 + cond (cond a b c) 29 28
        → (passed ≤ 364) ⊎ ((passed ≡ 365) × (Y % 4 ≡ 3) × (Y % 100 ≡ 99 → Y % 400 ≡ 399))
    go true true c p q r l = let x = eqb-true ((Y + 1) % 400) 0 q in or-last (omega arith) (omega arith) (λ e. omega arith)
    go true false c p q r l = inl (omega arith)
    go false b true p q r l =
        let x = eqb-false ((Y + 1) % 100) 0 p in
        let z = eqb-true ((Y + 1) % 4) 0 r in
        or-last (omega arith) (omega arith) (λ e. absurd (x (omega arith)))
    go false b false p q r l = inl (omega arith)

-- what a division finds
divided-year : (n e : ℕ) → e < 1461 → ((1461 * n + e) / 1461 ≡ n) × ((1461 * n + e) % 1461 ≡ e)
divided-year n e h = (omega arith, omega arith)

divided-century : (n e : ℕ) → e < 146097 → ((146097 * n + e) / 146097 ≡ n) × ((146097 * n + e) % 146097 ≡ e)
divided-century n e h = (omega arith, omega arith)

-- (4 x + 3) / (4 a + 1) finds n of x = a n + n / 4 + rest, where the last of four has a day more
find-year : (n rest : ℕ) → (rest ≤ 364) ⊎ ((rest ≡ 365) × (n % 4 ≡ 3))
    → ((4 * (365 * n + n / 4 + rest) + 3) / 1461 ≡ n) × ((4 * (365 * n + n / 4 + rest) + 3) % 1461 / 4 ≡ rest)
find-year n rest h =
    let e : ℕ = 3 - n % 4 + 4 * rest in
    let s : 4 * (365 * n + n / 4 + rest) + 3 ≡ 1461 * n + e = omega arith in
    let l : e < 1461 = ⊎_elim (λ x. omega arith) (λ x. omega arith) h in
    let d = divided-year n e l in
    (rw s d.0, rw (s, d.1) (omega arith))

find-century : (n rest : ℕ) → (rest ≤ 36523) ⊎ ((rest ≡ 36524) × (n % 4 ≡ 3))
    → ((4 * (36524 * n + n / 4 + rest) + 3) / 146097 ≡ n) × ((4 * (36524 * n + n / 4 + rest) + 3) % 146097 / 4 ≡ rest)
find-century n rest h =
    let e : ℕ = 3 - n % 4 + 4 * rest in
    let s : 4 * (36524 * n + n / 4 + rest) + 3 ≡ 146097 * n + e = omega arith in
    let l : e < 146097 = ⊎_elim (λ x. omega arith) (λ x. omega arith) h in
    let d = divided-century n e l in
    (rw s d.0, rw (s, d.1) (omega arith))

-- a year's days before it, by century and year of the century
fours-in : (Y : ℕ) → Y / 4 ≡ 25 * (Y / 100) + Y % 100 / 4
fours-in Y = omega arith

centuries-in : (Y : ℕ) → Y / 400 ≡ Y / 100 / 4
centuries-in Y = omega arith

by-century : (Y : ℕ) → year_start Y ≡ 36524 * (Y / 100) + Y / 100 / 4 + (365 * (Y % 100) + Y % 100 / 4)
unfolding year_start
by-century Y = rw (fours-in Y, centuries-in Y) (omega arith)

-- the days of a century that have passed
in-century : (Y passed : ℕ) → passed < 337 + february (Y + 1)
    → (365 * (Y % 100) + Y % 100 / 4 + passed ≤ 36523) ⊎ ((365 * (Y % 100) + Y % 100 / 4 + passed ≡ 36524) × (Y / 100 % 4 ≡ 3))
in-century Y passed h =
    ⊎_elim (λ x. inl (omega arith))
    (λ x. go (eqb (Y % 100) 99) refl x)
    (leap-last Y passed h)
  where
    go : (t : Bool) → eqb (Y % 100) 99 ≡ t → (passed ≡ 365) × (Y % 4 ≡ 3) × (Y % 100 ≡ 99 → Y % 400 ≡ 399)
        → (365 * (Y % 100) + Y % 100 / 4 + passed ≤ 36523) ⊎ ((365 * (Y % 100) + Y % 100 / 4 + passed ≡ 36524) × (Y / 100 % 4 ≡ 3))
    go true z x =
        let e = eqb-true (Y % 100) 99 z in
        let f = x.2 e in
        let c : Y / 100 ≡ 4 * (Y / 400) + 3 = omega arith in
        inr (omega arith, rw c (omega arith))
    go false z x = let e = eqb-false (Y % 100) 99 z in inl (omega arith)

in-year : (Y passed : ℕ) → passed < 337 + february (Y + 1) → (passed ≤ 364) ⊎ ((passed ≡ 365) × (Y % 100 % 4 ≡ 3))
in-year Y passed h = ⊎_elim (λ x. inl x) (λ x. inr (x.0, omega (arith, x.1))) (leap-last Y passed h)

pub civil-back : (y m d : ℕ) → 1 ≤ y → 1 ≤ d → d ≤ days_in y m → civil (days_to y m d) ≡ date y m d
unfolding civil yearly
civil-back y m d p h k =
    let r = marched y m d p h k in
    let Y : ℕ = r.year in
    let x : ℕ = 365 * (Y % 100) + Y % 100 / 4 + r.passed in
    let z : days_to y m d ≡ 36524 * (Y / 100) + Y / 100 / 4 + x = rw (r.to, by-century Y) (omega arith) in
    let c = find-century (Y / 100) x (in-century Y r.passed r.short) in
    let f = find-year (Y % 100) r.passed (in-year Y r.passed r.short) in
    let s : 100 * (Y / 100) + Y % 100 ≡ Y = omega arith in
    rw (z, c.0, c.1, f.0, f.1, s) r.back
