-- The plain calendar (Gregorian): leap years, the twelve lengths, the next day; the date of a day number, counted forward from day 0.
use Rattle.std.specs.Prelude.{ℕ, zero, suc, ◌+◌, ◌%◌, ◌^◌, ◌≤◌, ◌≡◌, Bool, cond, [], ◌∷◌, ltb, eqb, get_or}
use Rattle.calendar.specs.declared.Date.{Date}

abbrev pub date : ℕ → ℕ → ℕ → Date
date y m d = record { year = y; month = m; day = d }

-- every fourth year, but of the hundredth years only every fourth
unfoldable pub leap : ℕ → Bool
leap y = cond (eqb (y % 100) 0) (eqb (y % 400) 0) (eqb (y % 4) 0)

-- the days of a month, counted from 1; of any other number none
unfoldable pub days_in : (year month : ℕ) → ℕ
days_in y m = get_or (0 ∷ 31 ∷ cond (leap y) 29 28 ∷ 31 ∷ 30 ∷ 31 ∷ 30 ∷ 31 ∷ 31 ∷ 30 ∷ 31 ∷ 30 ∷ 31 ∷ []) m 0

-- a calendar day: there is no year 0
pub record IsDay (d : Date) : Type 0 where
  pub some_year : 1 ≤ d.year
  pub from_one : 1 ≤ d.day
  pub in-month : d.day ≤ days_in d.year d.month

unfoldable pub next_day : Date → Date
next_day d =
    cond (ltb d.day (days_in d.year d.month)) (date d.year d.month (d.day + 1))
    (cond (ltb d.month 12) (date d.year (d.month + 1) 1) (date (d.year + 1) 1 1))

-- so many days after a date
unfoldable pub days_after : ℕ → Date → Date
days_after zero d = d
days_after (suc n) d = next_day (days_after n d)

abbrev pub first_date : Date
first_date = date 1858 11 17

-- THE DATE OF A DAY NUMBER
unfoldable pub date_of : ℕ → Date
date_of n = days_after n first_date

-- what has no number of 32 bits: no calendar day; a day before day 0; a day whose number is no word
pub data Unnumbered (d : Date) : Type 0 where
  no_date : (IsDay d → ⊥) → Unnumbered d
  too_early : (k : ℕ) → IsDay d → days_after (suc k) d ≡ first_date → Unnumbered d
  too_late : (n : ℕ) → 2 ^ 32 ≤ n → date_of n ≡ d → Unnumbered d
