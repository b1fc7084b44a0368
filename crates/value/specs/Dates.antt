-- A date as the two words of a Value, p = 16 * year + month and q = 2^27 * day + milliseconds, which are one value here; and its bits (001, 10.7.5.5 and 10.7.5.6).
use Rattle.std.specs.Prelude.{ℕ, ◌+◌, ◌*◌, ◌/◌, ◌%◌, ◌^◌, ◌<◌, ◌≡◌, Bool, true, false, cond, List, [], ◌++◌, ltb, Option, Some, None}
use Rattle.numbers.specs.Limit.{day_milliseconds}
use Rattle.wire.specs.Bits.{digits}
use Rattle.calendar.specs.declared.Date.{Date}
use Rattle.calendar.specs.Plain.{date_of}
use Rattle.calendar.specs.Formulas.{day_by}

-- both words as one value, and each of them
abbrev pub joined : (p q : ℕ) → ℕ
joined p q = 2 ^ 32 * p + q

abbrev pub first_of : ℕ → ℕ
first_of v = v / 2 ^ 32

abbrev pub second_of : ℕ → ℕ
second_of v = v % 2 ^ 32

abbrev pub month_word : Date → ℕ
month_word d = 16 * d.year + d.month

abbrev pub day_word : Date → ℕ → ℕ
day_word d ms = 2 ^ 27 * d.day + ms

abbrev pub stamp_of : Date → ℕ → ℕ
stamp_of d ms = joined (month_word d) (day_word d ms)

-- with a clock the milliseconds are those of a day; without one there are none
abbrev pub clock_end : Bool → ℕ
clock_end true = day_milliseconds
clock_end false = 1

-- the values: every day number of 32 bits by the plain calendar, with its milliseconds
pub record Stamped (clock : Bool) (v : ℕ) : Type 0 where
  pub days : ℕ
  pub ms : ℕ
  pub a_word : days < 2 ^ 32
  pub in_day : ms < clock_end clock
  pub is : v ≡ stamp_of (date_of days) ms

-- the day number of a value, where its words are a date, and its milliseconds
unfoldable pub day_in : ℕ → Option ℕ
day_in v = day_by (first_of v / 16) (first_of v % 16) (second_of v / 2 ^ 27)

abbrev pub clock_in : ℕ → ℕ
clock_in v = second_of v % 2 ^ 27

-- 32 bits of days and, with a clock, 32 bits of milliseconds
unfoldable pub stamp_bits : (clock : Bool) (days ms : ℕ) → List ℕ
stamp_bits clock days ms = digits 32 days ++ cond clock (digits 32 ms) []

unfoldable pub day_bits : Bool → Option ℕ → ℕ → List ℕ
day_bits clock (Some n) ms = stamp_bits clock n ms
day_bits clock None ms = []

-- the writer's test
unfoldable pub day_fits : Bool → Option ℕ → ℕ → Bool
day_fits clock (Some n) ms = ltb ms (clock_end clock)
day_fits clock None ms = false
