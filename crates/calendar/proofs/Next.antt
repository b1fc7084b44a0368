-- The next day is a day too, and lies one day further.
use Prim.Native.Nat.{ℕ, zero, suc, ◌+◌, ◌-◌, ◌<◌, ◌≤◌}
use mathlib.Core.Path.{◌≡◌, refl}
use mathlib.Core.Bool.{Bool, true, false, cond}
use native.Mathlib.Numerals.{add-one}
use native.Mathlib.Omega.{arith}
use borrow.Author.Tests.{ltb-true, ltb-false}
use lib.Dec.{ltb}
use Rattle.calendar.specs.declared.Date.{Date}
use Rattle.calendar.specs.Plain.{date, days_in, IsDay, next_day, days_after}
use Rattle.calendar.specs.Formulas.{year_start, month_start, days_to}
use Rattle.calendar.proofs.Years.{year-ends}
use Rattle.calendar.proofs.March.{february-some}

-- a calendar day that is so many days from 1 March of year 0
pub record Stands (d : Date) (z : ℕ) : Type 0 where
  pub is : IsDay d
  pub number : days_to d.year d.month d.day ≡ z

-- a month's day more
within : (y m d : ℕ) → 1 ≤ d → days_to y m (d + 1) ≡ days_to y m d + 1
unfolding days_to
within y m d h = go (ltb m 3)
  where
    go : (t : Bool) → cond t (year_start (y - 1) + month_start (m + 9) + (d + 1 - 1)) (year_start y + month_start (m - 3) + (d + 1 - 1))
        ≡ cond t (year_start (y - 1) + month_start (m + 9) + (d - 1)) (year_start y + month_start (m - 3) + (d - 1)) + 1
    go true = omega arith
    go false = omega arith

-- the first of the next month
record Onward (y m : ℕ) : Type 0 where
  some : 1 ≤ days_in y (m + 1)
  further : days_to y (m + 1) 1 ≡ days_to y m (days_in y m) + 1

months : (y m : ℕ) → 1 ≤ y → 1 ≤ days_in y m → m < 12 → Onward y m
unfolding days_in month_start days_to
months y zero p h k = absurd (omega arith)
months y (suc zero) p h k = record { some = omega (arith, february-some y); further = omega arith }
months zero (suc (suc zero)) p h k = absurd (omega arith)
months (suc y) (suc (suc zero)) p h k =
    let e = year-ends y in
    let f = rw add-one at e in
    let z : suc y - 1 ≡ y = omega arith in
    record { some = omega arith; further = rw z (omega (arith, february-some (suc y))) }
months y (suc (suc (suc zero))) p h k = record { some = omega arith; further = omega arith }
months y (suc (suc (suc (suc zero)))) p h k = record { some = omega arith; further = omega arith }
months y (suc (suc (suc (suc (suc zero))))) p h k = record { some = omega arith; further = omega arith }
months y (suc (suc (suc (suc (suc (suc zero)))))) p h k = record { some = omega arith; further = omega arith }
months y (suc (suc (suc (suc (suc (suc (suc zero))))))) p h k = record { some = omega arith; further = omega arith }
months y (suc (suc (suc (suc (suc (suc (suc (suc zero)))))))) p h k = record { some = omega arith; further = omega arith }
months y (suc (suc (suc (suc (suc (suc (suc (suc (suc zero))))))))) p h k = record { some = omega arith; further = omega arith }
months y (suc (suc (suc (suc (suc (suc (suc (suc (suc (suc zero)))))))))) p h k = record { some = omega arith; further = omega arith }
months y (suc (suc (suc (suc (suc (suc (suc (suc (suc (suc (suc zero))))))))))) p h k = record { some = omega arith; further = omega arith }
months y (suc (suc (suc (suc (suc (suc (suc (suc (suc (suc (suc (suc m)))))))))))) p h k = absurd (omega arith)

-- December has as many days as any, and is the last month
december : (y m : ℕ) → 1 ≤ days_in y m → 12 ≤ m → days_to (y + 1) 1 1 ≡ days_to y m (days_in y m) + 1
unfolding days_in month_start days_to
december y zero h k = absurd (omega arith)
december y (suc zero) h k = absurd (omega arith)
december y (suc (suc zero)) h k = absurd (omega arith)
december y (suc (suc (suc zero))) h k = absurd (omega arith)
december y (suc (suc (suc (suc zero)))) h k = absurd (omega arith)
december y (suc (suc (suc (suc (suc zero))))) h k = absurd (omega arith)
december y (suc (suc (suc (suc (suc (suc zero)))))) h k = absurd (omega arith)
december y (suc (suc (suc (suc (suc (suc (suc zero))))))) h k = absurd (omega arith)
december y (suc (suc (suc (suc (suc (suc (suc (suc zero)))))))) h k = absurd (omega arith)
december y (suc (suc (suc (suc (suc (suc (suc (suc (suc zero))))))))) h k = absurd (omega arith)
december y (suc (suc (suc (suc (suc (suc (suc (suc (suc (suc zero)))))))))) h k = absurd (omega arith)
december y (suc (suc (suc (suc (suc (suc (suc (suc (suc (suc (suc zero))))))))))) h k = absurd (omega arith)
december y (suc (suc (suc (suc (suc (suc (suc (suc (suc (suc (suc (suc zero)))))))))))) h k = let z : y + 1 - 1 ≡ y = omega arith in rw z (omega arith)
december y (suc (suc (suc (suc (suc (suc (suc (suc (suc (suc (suc (suc (suc m))))))))))))) h k = absurd (omega arith)

january : (y : ℕ) → 1 ≤ days_in y 1
unfolding days_in
january y = omega arith

pub next-stands : (d : Date) (z : ℕ) → Stands d z → Stands (next_day d) (z + 1)
unfolding next_day
next-stands d z s = go (ltb d.day (days_in d.year d.month)) (ltb d.month 12) refl refl
  where
    go : (a b : Bool) → ltb d.day (days_in d.year d.month) ≡ a → ltb d.month 12 ≡ b
        → Stands (cond a (date d.year d.month (d.day + 1)) (cond b (date d.year (d.month + 1) 1) (date (d.year + 1) 1 1))) (z + 1)
    go true b e f =
        let l = ltb-true d.day (days_in d.year d.month) e in
        let n = within d.year d.month d.day s.is.from_one in
        let k = s.number in
        record { is = record { some_year = s.is.some_year; from_one = omega arith; in-month = omega arith }; number = omega arith }
    go false true e f =
        let l = ltb-false d.day (days_in d.year d.month) e in
        let g = s.is.from_one in
        let x = s.is.in-month in
        let q : d.day ≡ days_in d.year d.month = omega arith in
        let o = months d.year d.month s.is.some_year (omega arith) (ltb-true d.month 12 f) in
        let k = rw q at s.number in
        let u = o.further in
        record { is = record { some_year = s.is.some_year; from_one = omega arith; in-month = o.some }; number = omega arith }
    go false false e f =
        let l = ltb-false d.day (days_in d.year d.month) e in
        let g = s.is.from_one in
        let x = s.is.in-month in
        let q : d.day ≡ days_in d.year d.month = omega arith in
        let u = december d.year d.month (omega arith) (ltb-false d.month 12 f) in
        let k = rw q at s.number in
        record { is = record { some_year = omega arith; from_one = omega arith; in-month = january (d.year + 1) }; number = omega arith }

pub after-stands : (k : ℕ) (d : Date) (z : ℕ) → Stands d z → Stands (days_after k d) (z + k)
unfolding days_after
after-stands zero d z s = let e : z + 0 ≡ z = omega arith in rw e s
after-stands (suc k) d z s = let e : z + k + 1 ≡ z + suc k = omega arith in rw (← e) (next-stands (days_after k d) (z + k) (after-stands k d z s))
