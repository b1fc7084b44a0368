-- The same by formulas, which compute at once; `proofs/Laws.antt` proves them of the plain calendar, so that no reader has to believe them.
-- Years are counted from March here, so that the leap day ends one: day 0 of that count is 1 March of year 0.
use Rattle.std.specs.Prelude.{ℕ, ◌+◌, ◌-◌, ◌*◌, ◌/◌, ◌%◌, ◌^◌, cond, ltb, leb, Option, Some, None}
use Rattle.calendar.specs.declared.Date.{Date}
use Rattle.calendar.specs.Plain.{date, days_in}

-- the days from 1 March of year 0 to 1858-11-17
abbrev pub before : ℕ
before = 678881

-- the days before a year and before a month, counted from March (0) on
unfoldable pub year_start : ℕ → ℕ
year_start y = 365 * y + y / 4 + y / 400 - y / 100

unfoldable pub month_start : ℕ → ℕ
month_start m = (153 * m + 2) / 5

-- a month counted from March as one counted from January
unfoldable pub from_march : (year month day : ℕ) → Date
from_march y m d = cond (ltb m 10) (date y (m + 3) d) (date (y + 1) (m - 9) d)

-- century, year of it, month of that, and what is left each time
unfoldable pub monthly : (year rest : ℕ) → Date
monthly y rest = from_march y (rest / 153) (rest % 153 / 5 + 1)

unfoldable pub yearly : (century rest : ℕ) → Date
yearly c rest = monthly (100 * c + rest / 1461) (5 * (rest % 1461 / 4) + 2)

unfoldable pub civil : ℕ → Date
civil z = yearly ((4 * z + 3) / 146097) (4 * ((4 * z + 3) % 146097 / 4) + 3)

unfoldable pub date_by : ℕ → Date
date_by n = civil (n + before)

-- the days from 1 March of year 0 to a date: January and February end the year before
unfoldable pub days_to : (year month day : ℕ) → ℕ
days_to y m d =
    cond (ltb m 3) (year_start (y - 1) + month_start (m + 9) + (d - 1)) (year_start y + month_start (m - 3) + (d - 1))

-- a day of its month that is not before day 0 and whose number is a word; or none
unfoldable pub in_word : ℕ → Option ℕ
in_word z = cond (leb before z) (cond (ltb (z - before) (2 ^ 32)) (Some (z - before)) None) None

unfoldable pub day_by : (year month day : ℕ) → Option ℕ
day_by y m d = cond (leb 1 d) (cond (leb d (days_in y m)) (in_word (days_to y m d)) None) None
