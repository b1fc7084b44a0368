-- The laws of a date's code: its words give back its day number and its milliseconds, and what has a day number is a date.
use Prim.Native.Nat.{ℕ, ◌+◌, ◌*◌, ◌/◌, ◌%◌, ◌^◌, ◌<◌, ◌≤◌}
use mathlib.Core.Path.{◌≡◌, refl, sym}
use mathlib.Core.Bool.{Bool, true, false, cond}
use mathlib.Core.List.{[]}
use native.Mathlib.Omega.{arith}
use borrow.Author.Tests.{ltb-true, lt-ltb}
use lib.ListN.{length, length-append}
use Rattle.numbers.specs.Refusal.{no_such_code}
use Rattle.numbers.specs.Limit.{day_milliseconds}
use Rattle.wire.specs.Res.{got, Ensures}
use Rattle.wire.proofs.Res.{gives, bind, under, then, under-then}
use Rattle.wire.specs.Bits.{digits}
use Rattle.wire.specs.At.{At}
use Rattle.wire.proofs.BitLaws.{length_digits, at_none, at_both, at_left, at_right}
use Rattle.wire.specs.Lawful.{Binary, Stands}
use Rattle.wire.proofs.Lawful.{fixed-lawful, fixed-below, bind-same}
use Rattle.std.specs.Prelude.{Option, Some, None}
use Rattle.calendar.specs.Plain.{date_of}
use Rattle.calendar.specs.Formulas.{date_by}
use Rattle.calendar.proofs.Laws.{date-by, date-small, day-back, day-date}
use Rattle.value.specs.Dates.{joined, first_of, second_of, month_word, day_word, stamp_of, clock_end, Stamped, day_in, clock_in, stamp_bits, day_bits, day_fits}
use Rattle.value.specs.Code.{stamp, clock_at, code_at}

-- words apart
pub joined-parts : (p q : ℕ) → q < 2 ^ 32 → (first_of (joined p q) ≡ p) × (second_of (joined p q) ≡ q)
joined-parts p q h = (omega arith, omega arith)

pub parts-joined : (v : ℕ) → joined (first_of v) (second_of v) ≡ v
parts-joined v = omega arith

by-sixteen : (y m : ℕ) → m ≤ 12 → ((16 * y + m) / 16 ≡ y) × ((16 * y + m) % 16 ≡ m)
by-sixteen y m h = (omega arith, omega arith)

by-day : (d ms : ℕ) → ms < 2 ^ 27 → ((2 ^ 27 * d + ms) / 2 ^ 27 ≡ d) × ((2 ^ 27 * d + ms) % 2 ^ 27 ≡ ms)
by-day d ms h = (omega arith, omega arith)

pub clock-small : (clock : Bool) (ms : ℕ) → ms < clock_end clock → ms < day_milliseconds
clock-small true ms h = h
clock-small false ms h = omega arith

-- a day's words
module _ (n ms : ℕ) (h : n < 2 ^ 32) (k : ms < day_milliseconds) where
  small : day_word (date_of n) ms < 2 ^ 32
  small = let s = date-small n h in omega (arith, s.2)

  pub stamp-first : first_of (stamp_of (date_of n) ms) ≡ month_word (date_of n)
  stamp-first = (joined-parts (month_word (date_of n)) (day_word (date_of n) ms) small).0

  pub stamp-second : second_of (stamp_of (date_of n) ms) ≡ day_word (date_of n) ms
  stamp-second = (joined-parts (month_word (date_of n)) (day_word (date_of n) ms) small).1

  pub stamp-day : day_in (stamp_of (date_of n) ms) ≡ Some n
  unfolding day_in
  stamp-day =
      let y = by-sixteen (date_of n).year (date_of n).month (date-small n h).1 in
      let d = by-day (date_of n).day ms (omega arith) in
      rw (stamp-first, stamp-second, y.0, y.1, d.0) (day-back n h)

  pub stamp-clock : clock_in (stamp_of (date_of n) ms) ≡ ms
  stamp-clock = rw stamp-second (by-day (date_of n).day ms (omega arith)).1

pub stamped-bits : (clock : Bool) (v : ℕ) (s : Stamped clock v) → day_bits clock (day_in v) (clock_in v) ≡ stamp_bits clock s.days s.ms
unfolding day_bits
stamped-bits clock v s =
    let k = clock-small clock s.ms s.in_day in
    rw (s.is, stamp-day s.days s.ms s.a_word k, stamp-clock s.days s.ms s.a_word k)

-- the writer's test
pub stamp-fits : (clock : Bool) (v : ℕ) → Stamped clock v → day_fits clock (day_in v) (clock_in v) ≡ true
unfolding day_fits
stamp-fits clock v s =
    let k = clock-small clock s.ms s.in_day in
    rw (s.is, stamp-day s.days s.ms s.a_word k, stamp-clock s.days s.ms s.a_word k) (lt-ltb s.ms (clock_end clock) s.in_day)

pub fits-stamp : (clock : Bool) (v : ℕ) → day_fits clock (day_in v) (clock_in v) ≡ true → Stamped clock v
unfolding day_in day_fits
fits-stamp clock v h = go (day_in v) refl h
  where
    go : (d : Option ℕ) → day_in v ≡ d → day_fits clock d (clock_in v) ≡ true → Stamped clock v
    go (Some n) e f =
        let F : ℕ = first_of v in
        let S : ℕ = second_of v in
        let g = day-date (F / 16) (F % 16) (S / 2 ^ 27) n e in
        let a : 16 * (F / 16) + F % 16 ≡ F = omega arith in
        let b : 2 ^ 27 * (S / 2 ^ 27) + S % 2 ^ 27 ≡ S = omega arith in
        record { days = n; ms = clock_in v; a_word = g.0; in_day = ltb-true (clock_in v) (clock_end clock) f; is = rw (g.1, a, b) (sym (parts-joined v)) }
    go None e f = absurd (let z : ◌≡◌ {A = ℕ} 0 1 = cc in omega arith)

pub stamp-length : (clock : Bool) (days ms : ℕ) → length (stamp_bits clock days ms) ≡ cond clock 64 32
unfolding stamp_bits
stamp-length true days ms = omega (arith, length-append (digits 32 days) (digits 32 ms), length_digits 32 days, length_digits 32 ms)
stamp-length false days ms = omega (arith, length-append (digits 32 days) [], length_digits 32 days)

-- the reading behind the days
module _ (b : ℕ → ℕ) (bit : Binary b) (wall at n p : ℕ) (f : Stands b (n < 2 ^ 32) (digits 32 n) wall at p) where
  pub clock-found : (clock : Bool) → Ensures (clock_at clock b wall n p) (λ r. Stands b (Stamped clock r.0) (day_bits clock (day_in r.0) (clock_in r.0)) wall at r.1)
  unfolding clock_at stamp_bits
  clock-found true = bind ((fixed-lawful 32).found b bit wall p) λ r g. under no_such_code λ h.
      let s : Stamped true (stamp_of (date_by n) r.0) = record { days = n; ms = r.0; a_word = f.fits; in_day = omega arith; is = rw (date-by n) refl } in
      gives (record { fits = s; stands = rw (stamped-bits true (stamp_of (date_by n) r.0) s) (at_both f.stands g.stands); within = g.within })
  clock-found false =
      let s : Stamped false (stamp_of (date_by n) 0) = record { days = n; ms = 0; a_word = f.fits; in_day = omega arith; is = rw (date-by n) refl } in
      gives (record { fits = s; stands = rw (stamped-bits false (stamp_of (date_by n) 0) s) (at_both f.stands at_none); within = f.within })

module _ (b : ℕ → ℕ) where
  pub stamp-reads : (clock : Bool) (wall at v p : ℕ) (s : Stamped clock v) → At b at (stamp_bits clock s.days s.ms) p → p ≤ wall → code_at (stamp clock) b wall at ≡ got (v, p)
  unfolding code_at clock_at stamp_bits
  stamp-reads true wall at v p s f k =
      let x = digits 32 s.days in
      let y = digits 32 s.ms in
      let l = length-append x y in
      let e = f.next in
      let d = s.in_day in
      then _ ((fixed-lawful 32).reads b wall at s.days (at + length x) s.a_word (at_left x y f) (omega arith))
      (then _ ((fixed-lawful 32).reads b wall (at + length x) s.ms p (omega arith) (at_right x y f) k)
      (under-then no_such_code (omega arith) (rw (date-by s.days, s.is))))
  stamp-reads false wall at v p s f k =
      let x = digits 32 s.days in
      let l = length-append x [] in
      let e = f.next in
      let z : s.ms ≡ 0 = omega (arith, s.in_day) in
      let q : at + length x ≡ p = omega arith in
      then _ (rw q at ((fixed-lawful 32).reads b wall at s.days (at + length x) s.a_word (at_left x [] f) (omega arith))) (rw (date-by s.days, s.is, z))

-- no bit at the wall or past it is looked at
pub clock-below : (b c : ℕ → ℕ) (wall : ℕ) → ((i : ℕ) → i < wall → b i ≡ c i) → (clock : Bool) (n p : ℕ) → clock_at clock b wall n p ≡ clock_at clock c wall n p
unfolding clock_at
clock-below b c wall s true n p = bind-same _ _ _ _ (fixed-below b c wall s p 32) λ r e. refl
clock-below b c wall s false n p = refl
