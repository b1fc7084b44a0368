-- Days of the request's page, computed: by counting where they lie near day 0, else by the formulas, which `Laws` proves to count the same.
use Prim.Native.Nat.{◌-◌, ◌^◌}
use mathlib.Core.Path.{◌≡◌, refl, sym}
use Rattle.std.specs.Prelude.{Some, None}
use Rattle.calendar.specs.Plain.{date, leap, days_in, next_day, days_after, date_of}
use Rattle.calendar.specs.Formulas.{year_start, month_start, from_march, monthly, yearly, civil, date_by, days_to, in_word, day_by}
use Rattle.calendar.proofs.Laws.{date-by}

last-of-1858 : date_of 44 ≡ date 1858 12 31
unfolding date_of days_after next_day days_in leap
last-of-1858 = refl

first-of-1859 : date_of 45 ≡ date 1859 1 1
unfolding date_of days_after next_day days_in leap
first-of-1859 = refl

april-1980 : date_of 44330 ≡ date 1980 4 1
unfolding date_by civil yearly monthly from_march
april-1980 = sym (date-by 44330)

leap-2000 : date_of 51603 ≡ date 2000 2 29
unfolding date_by civil yearly monthly from_march
leap-2000 = sym (date-by 51603)

march-2001 : date_of 51969 ≡ date 2001 3 1
unfolding date_by civil yearly monthly from_march
march-2001 = sym (date-by 51969)

-- the first and the last day have a number, their neighbours none; nor has what is no calendar day
first-day : day_by 1858 11 17 ≡ Some 0
unfolding day_by in_word days_to year_start month_start days_in leap
first-day = refl

day-before : day_by 1858 11 16 ≡ None
unfolding day_by in_word days_to year_start month_start days_in leap
day-before = refl

last-day : day_by 11761079 12 6 ≡ Some (2 ^ 32 - 1)
unfolding day_by in_word days_to year_start month_start days_in leap
last-day = refl

day-after : day_by 11761079 12 7 ≡ None
unfolding day_by in_word days_to year_start month_start days_in leap
day-after = refl

leap-1900 : day_by 1900 2 29 ≡ None
unfolding day_by in_word days_to year_start month_start days_in leap
leap-1900 = refl

month-13 : day_by 2024 13 1 ≡ None
unfolding day_by in_word days_to year_start month_start days_in leap
month-13 = refl

april-31 : day_by 2024 4 31 ≡ None
unfolding day_by in_word days_to year_start month_start days_in leap
april-31 = refl
