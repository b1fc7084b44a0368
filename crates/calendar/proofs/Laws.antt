-- The formulas are the plain calendar. `date-by`: the date of every day number. `day-back`: back of a day's date is the day. `day-date`: a date that has
-- a number is that day's date. `no-day` and `not-both`: the dates without one are exactly those that are no calendar day or lie outside.
use Prim.Native.Nat.{ℕ, zero, suc, ◌+◌, ◌-◌, ◌*◌, ◌/◌, ◌%◌, ◌^◌, ◌<◌, ◌≤◌}
use mathlib.Core.Path.{◌≡◌, refl, sym, ◌∙◌}
use mathlib.Core.Bool.{Bool, true, false, cond}
use native.Mathlib.Omega.{arith}
use borrow.Author.Tests.{ltb-true, ltb-false, leb-true, leb-false, le-leb, lt-leb, lt-ltb}
use lib.Dec.{ltb, leb}
use Rattle.calendar.specs.declared.Date.{Date}
use Rattle.std.specs.Prelude.{Some, None}
use Rattle.calendar.specs.Plain.{date, days_in, IsDay, first_date, days_after, date_of, Unnumbered, no_date, too_early, too_late}
use Rattle.calendar.specs.Formulas.{before, year_start, month_start, from_march, monthly, yearly, civil, date_by, days_to, in_word, day_by}
use Rattle.calendar.proofs.March.{february-most}
use Rattle.calendar.proofs.Civil.{civil-back}
use Rattle.calendar.proofs.Next.{Stands, after-stands}

first-stands : Stands first_date before
unfolding days_in days_to year_start month_start
first-stands = record { is = record { some_year = omega arith; from_one = omega arith; in-month = omega arith }; number = refl }

date-stands : (n : ℕ) → Stands (date_of n) (before + n)
unfolding date_of
date-stands n = after-stands n first_date before first-stands

-- a day is found again from the days before it, so there is one with so many
civil-stands : (d : Date) (z : ℕ) → Stands d z → civil z ≡ d
civil-stands d z s = rw (← s.number) (civil-back d.year d.month d.day s.is.some_year s.is.from_one s.is.in-month)

pub date-by : (n : ℕ) → date_by n ≡ date_of n
unfolding date_by
date-by n = let z : n + before ≡ before + n = omega arith in rw z (civil-stands (date_of n) (before + n) (date-stands n))

pub date_by_steps : (n : ℕ) → yearly ((4 * (n + before) + 3) / 146097) (4 * ((4 * (n + before) + 3) % 146097 / 4) + 3) ≡ date_of n
unfolding date_by civil
date_by_steps n = date-by n

-- the last day whose number is a word
pub last-date : date_of (2 ^ 32 - 1) ≡ date 11761079 12 6
unfolding date_by civil yearly monthly from_march
last-date = sym (date-by (2 ^ 32 - 1))

pub date-is-day : (n : ℕ) → IsDay (date_of n)
date-is-day n = (date-stands n).is

pub day-back : (n : ℕ) → n < 2 ^ 32 → day_by (date_of n).year (date_of n).month (date_of n).day ≡ Some n
unfolding day_by in_word
day-back n h =
    let s = date-stands n in
    let d : Date = date_of n in
    let z : before + n - before ≡ n = omega arith in
    rw (le-leb 1 d.day s.is.from_one, le-leb d.day (days_in d.year d.month) s.is.in-month, s.number, le-leb before (before + n) (omega arith), z, lt-ltb n (2 ^ 32) h)

-- days before day 0, and words
year_start-most : (y : ℕ) → y ≤ 1857 → year_start y ≤ 678273
unfolding year_start
year_start-most y h = omega arith

month_start-most : (m : ℕ) → m ≤ 11 → month_start m ≤ 337
unfolding month_start
month_start-most m h = omega arith

month-most : (y m : ℕ) → 1 ≤ days_in y m → (m ≤ 12) × (days_in y m ≤ 31)
unfolding days_in
month-most y zero h = absurd (omega arith)
month-most y (suc zero) h = (omega arith, omega arith)
month-most y (suc (suc zero)) h = (omega arith, omega (arith, february-most y))
month-most y (suc (suc (suc zero))) h = (omega arith, omega arith)
month-most y (suc (suc (suc (suc zero)))) h = (omega arith, omega arith)
month-most y (suc (suc (suc (suc (suc zero))))) h = (omega arith, omega arith)
month-most y (suc (suc (suc (suc (suc (suc zero)))))) h = (omega arith, omega arith)
month-most y (suc (suc (suc (suc (suc (suc (suc zero))))))) h = (omega arith, omega arith)
month-most y (suc (suc (suc (suc (suc (suc (suc (suc zero)))))))) h = (omega arith, omega arith)
month-most y (suc (suc (suc (suc (suc (suc (suc (suc (suc zero))))))))) h = (omega arith, omega arith)
month-most y (suc (suc (suc (suc (suc (suc (suc (suc (suc (suc zero)))))))))) h = (omega arith, omega arith)
month-most y (suc (suc (suc (suc (suc (suc (suc (suc (suc (suc (suc zero))))))))))) h = (omega arith, omega arith)
month-most y (suc (suc (suc (suc (suc (suc (suc (suc (suc (suc (suc (suc zero)))))))))))) h = (omega arith, omega arith)
month-most y (suc (suc (suc (suc (suc (suc (suc (suc (suc (suc (suc (suc (suc m))))))))))))) h = absurd (omega arith)

pub early_none : (y m d : ℕ) → y < 1858 → 1 ≤ d → d ≤ days_in y m → in_word (days_to y m d) ≡ None
unfolding in_word days_to
early_none y m d l h k =
    let w = month-most y m (omega arith) in
    let z : leb before (days_to y m d) ≡ false = lt-leb before (days_to y m d) (go (ltb m 3) refl w.0 w.1) in
    rw z
  where
    go : (t : Bool) → ltb m 3 ≡ t → m ≤ 12 → days_in y m ≤ 31
        → cond t (year_start (y - 1) + month_start (m + 9) + (d - 1)) (year_start y + month_start (m - 3) + (d - 1)) < before
    go true e f g = omega (arith, year_start-most (y - 1) (omega arith), month_start-most (m + 9) (omega (arith, ltb-true m 3 e)))
    go false e f g = omega (arith, year_start-most y (omega arith), month_start-most (m - 3) (omega arith))

word_number : (z n : ℕ) → in_word z ≡ Some n → (n < 2 ^ 32) × (before + n ≡ z)
unfolding in_word
word_number z n h = go (leb before z) (ltb (z - before) (2 ^ 32)) refl refl h
  where
    go : (a b : Bool) → leb before z ≡ a → ltb (z - before) (2 ^ 32) ≡ b → cond a (cond b (Some (z - before)) None) None ≡ Some n
        → (n < 2 ^ 32) × (before + n ≡ z)
    go true true e f g =
        let q : z - before ≡ n = cc in
        let l = leb-true before z e in
        let r = ltb-true (z - before) (2 ^ 32) f in
        (omega arith, omega arith)
    go true false e f g = absurd (let x : ◌≡◌ {A = ℕ} 0 1 = cc in omega arith)
    go false b e f g = absurd (let x : ◌≡◌ {A = ℕ} 0 1 = cc in omega arith)

word-nothing : (d : Date) (z : ℕ) → Stands d z → in_word z ≡ None → Unnumbered d
unfolding in_word
word-nothing d z s h = go (leb before z) (ltb (z - before) (2 ^ 32)) refl refl h
  where
    go : (a b : Bool) → leb before z ≡ a → ltb (z - before) (2 ^ 32) ≡ b → cond a (cond b (Some (z - before)) None) None ≡ None → Unnumbered d
    go true true e f g = absurd (let x : ◌≡◌ {A = ℕ} 0 1 = cc in omega arith)
    go true false e f g =
        let l = leb-true before z e in
        let q : before + (z - before) ≡ z = omega arith in
        let t = rw q at (civil-stands (date_of (z - before)) (before + (z - before)) (date-stands (z - before))) in
        too_late (z - before) (ltb-false (z - before) (2 ^ 32) f) (sym t ∙ civil-stands d z s)
    go false b e f g =
        let l = leb-false before z e in
        let k : ℕ = before - z - 1 in
        let q : z + suc k ≡ before = omega arith in
        let t = rw q at (after-stands (suc k) d z s) in
        too_early k s.is (sym (civil-stands (days_after (suc k) d) before t) ∙ civil-stands first_date before first-stands)

-- a date's fields are small: 24, 4 and 5 bits hold them
year_start-least : (y : ℕ) → 365 * y ≤ year_start y
unfolding year_start
year_start-least y = let h : y / 100 ≤ y / 4 = omega arith in omega arith

year-least : (y m d : ℕ) → 365 * (y - 1) ≤ days_to y m d
unfolding days_to
year-least y m d = go (ltb m 3)
  where
    go : (t : Bool) → 365 * (y - 1) ≤ cond t (year_start (y - 1) + month_start (m + 9) + (d - 1)) (year_start y + month_start (m - 3) + (d - 1))
    go true = omega (arith, year_start-least (y - 1))
    go false = omega (arith, year_start-least y)

pub date-small : (n : ℕ) → n < 2 ^ 32 → ((date_of n).year < 2 ^ 24) × ((date_of n).month ≤ 12) × ((date_of n).day ≤ 31)
date-small n h =
    let s = date-stands n in
    let i = s.is.in-month in
    let o = s.is.from_one in
    let w = month-most (date_of n).year (date_of n).month (omega arith) in
    (omega (arith, year-least (date_of n).year (date_of n).month (date_of n).day, s.number), w.0, omega (arith, w.1))

module _ (y m d : ℕ) where
  -- what the tests tell: no calendar day, and then no number; or one, whose number is that of the days before it
  pub data Told : Type 0 where
    none : (IsDay (date y m d) → ⊥) → day_by y m d ≡ None → Told
    one : IsDay (date y m d) → day_by y m d ≡ in_word (days_to y m d) → Told

  told : Told
  unfolding day_by
  told = go (leb 1 d) (leb d (days_in y m)) (leb 1 y) refl refl refl
    where
      go : (a b c : Bool) → leb 1 d ≡ a → leb d (days_in y m) ≡ b → leb 1 y ≡ c → Told
      go false b c e f g = none (λ i. omega (arith, i.from_one, leb-false 1 d e)) (rw e)
      go true false c e f g = none (λ i. omega (arith, i.in-month, leb-false d (days_in y m) f)) (rw (e, f))
      go true true false e f g =
          none (λ i. omega (arith, i.some_year, leb-false 1 y g))
          (rw (e, f) (early_none y m d (omega (arith, leb-false 1 y g)) (leb-true 1 d e) (leb-true d (days_in y m) f)))
      go true true true e f g =
          one (record { some_year = leb-true 1 y g; from_one = leb-true 1 d e; in-month = leb-true d (days_in y m) f }) (rw (e, f))

  -- a date that has a number is that day's date
  pub day-date : (n : ℕ) → day_by y m d ≡ Some n → (n < 2 ^ 32) × (date_of n ≡ date y m d)
  day-date n h = go told
    where
      go : Told → (n < 2 ^ 32) × (date_of n ≡ date y m d)
      go (none i e) = absurd (let z : ◌≡◌ {A = ℕ} 0 1 = cc in omega arith)
      go (one i e) =
          let w = word_number (days_to y m d) n (sym e ∙ h) in
          let a = civil-stands (date_of n) (before + n) (date-stands n) in
          let b = civil-stands (date y m d) (days_to y m d) (record { is = i; number = refl }) in
          (w.0, sym a ∙ rw w.1 b)

  -- what has no number is no calendar day or lies outside, and what is none or lies outside has no number
  pub no-day : day_by y m d ≡ None → Unnumbered (date y m d)
  no-day h = go told
    where
      go : Told → Unnumbered (date y m d)
      go (none i e) = no_date i
      go (one i e) = word-nothing (date y m d) (days_to y m d) (record { is = i; number = refl }) (sym e ∙ h)

  pub not-both : (n : ℕ) → day_by y m d ≡ Some n → Unnumbered (date y m d) → ⊥
  not-both n h u =
      let f = day-date n h in
      let s : Stands (date y m d) (before + n) = rw f.1 at (date-stands n) in
      go s u
    where
      go : Stands (date y m d) (before + n) → Unnumbered (date y m d) → ⊥
      go s (no_date i) = i s.is
      go s (too_early k i e) =
          let t = after-stands (suc k) (date y m d) (before + n) s in
          let q = rw e at t.number in
          omega (arith, q, first-stands.number)
      go s (too_late k l e) =
          let t = rw e at (date-stands k) in
          omega (arith, (day-date n h).0, s.number, t.number)
