-- Each way through the reading of a date, and through what its words are on the wire.
use Prim.Native.Nat.{ℕ, ◌/◌, ◌%◌, ◌^◌, ◌<◌, ◌≤◌}
use mathlib.Core.Path.{◌≡◌, refl, sym, ap, ◌∙◌}
use mathlib.Core.Bool.{Bool, true, false}
use mathlib.Core.List.{[]}
use native.Mathlib.Omega.{arith}
use borrow.Author.Tests.{lt-ltb, le-ltb}
use Rattle.numbers.specs.Refusal.{no_such_code, outside_row}
use Rattle.numbers.specs.Limit.{day_milliseconds}
use Rattle.wire.specs.declared.Bits.{Bits}
use Rattle.std.specs.Prelude.{Ok, Err}
use Rattle.numbers.specs.declared.refusal.Refusal.{Refusal}
use Rattle.numbers.specs.declared.refusal.Refusal.TheVariants as refusal
use Rattle.numbers.specs.Refused.{number_of}
use Rattle.wire.specs.Res.{Res, got, fault}
use Rattle.wire.proofs.Res.{then, then-fault, under-then, under-fault, tested-then, tested-fault}
use Rattle.wire.specs.Bits.{fixed_at}
use Rattle.wire.specs.Answer.{Read, read_is, fixed32}
use Rattle.wire.proofs.ReadWays.{read-value, read-refuse, wide}
use Rattle.calendar.specs.declared.Date.{Date}
use Rattle.std.specs.Prelude.{Option, Some, None}
use Rattle.calendar.specs.Plain.{date_of}
use Rattle.calendar.specs.Formulas.{date_by, day_by}
use Rattle.calendar.proofs.Laws.{date-by, date-small}
use Rattle.value.specs.Dates.{joined, first_of, second_of, month_word, day_word, stamp_of, clock_end, day_in, clock_in, day_bits, day_fits}
use Rattle.value.specs.Code.{stamp, clock_at, code_at, bits_of, fits, code_out}
use Rattle.value.specs.Simple.{dated, first_word, second_word, untexted, simple_at, words_of}
use Rattle.value.specs.declared.Value as value_t
use Rattle.value.specs.Answer.{Valued, value_is, stamp_is}
use Rattle.value.specs.declared.Value.TheVariants as vv
use Rattle.value.proofs.SimpleLaws.{words-got, words-fault}
use Rattle.value.proofs.DateLaws.{joined-parts, stamp-first, stamp-second}

-- a date that was found is small
pub found_small : (n : ℕ) (d : Date) → n < 2 ^ 32 → d ≡ date_of n → (d.year < 2 ^ 24) × (d.month ≤ 12) × (d.day ≤ 31)
found_small n d h e = rw e (date-small n h)

-- the words of a day and its milliseconds, as they are read
words-read : (clock : Bool) (b : ℕ → ℕ) (n ms : ℕ) (next : Bits) (m : Res (ℕ × ℕ)) (x : value_t.Value) → n < 2 ^ 32 → ms < day_milliseconds → m ≡ got (stamp_of (date_by n) ms, next.0)
    → x ≡ vv.Dated (month_word (date_of n)) (day_word (date_of n) ms) next → value_is b (Ok x) ≡ words_of (dated (stamp clock)) (untexted m)
unfolding value_is first_word second_word untexted
words-read clock b n ms next m x h k e f =
    let w : words_of (dated (stamp clock)) (untexted m) ≡ got (first_of (stamp_of (date_by n) ms), second_of (stamp_of (date_by n) ms), [], next.0) = words-got (dated (stamp clock)) (then _ e refl) in
    rw f (sym (w ∙ rw (date-by n, stamp-first n ms h k, stamp-second n ms h k)))

fault-read : (clock : Bool) (b : ℕ → ℕ) (n : Refusal) (m : Res (ℕ × ℕ)) → m ≡ fault (number_of n) → value_is b (Err n) ≡ words_of (dated (stamp clock)) (untexted m)
unfolding value_is untexted
fault-read clock b n m e = sym (words-fault (dated (stamp clock)) (then-fault _ e))

-- clock: behind the days
module _ (b : ℕ → ℕ) (wall at days : ℕ) (r : Read) (e : read_is r ≡ fixed32 b wall at 32) where
  fixed-is : read_is r ≡ fixed_at b wall at 32
  fixed-is = e ∙ wide b wall at 32 (omega arith)

  pub clock-cut : (n : Refusal) → r ≡ Err n → value_is b (Err n) ≡ words_of (dated (stamp true)) (untexted (clock_at true b wall days at))
  unfolding clock_at
  clock-cut n g = fault-read true b n _ (then-fault _ (read-refuse fixed-is g))

  module _ (ms : ℕ) (p : Bits) (g : r ≡ Ok (ms, p)) where
    pub clock-over : day_milliseconds ≤ ms → value_is b (Err refusal.NoSuchCode) ≡ words_of (dated (stamp true)) (untexted (clock_at true b wall days at))
    unfolding clock_at
    clock-over h = fault-read true b refusal.NoSuchCode _ (then _ (read-value fixed-is g) (under-fault no_such_code _ (omega arith)))

    pub clock-in : (x : value_t.Value) → days < 2 ^ 32 → ms < day_milliseconds → x ≡ vv.Dated (month_word (date_of days)) (day_word (date_of days) ms) p
        → value_is b (Ok x) ≡ words_of (dated (stamp true)) (untexted (clock_at true b wall days at))
    unfolding clock_at
    clock-in x h k f = words-read true b days ms p _ x h k (then _ (read-value fixed-is g) (under-then no_such_code (omega arith) refl)) f

pub ruleset clock_ways = (clock-cut, clock-over, clock-in)

-- read
module _ (b : ℕ → ℕ) (wall at : ℕ) (clock : Bool) (r : Read) (e : read_is r ≡ fixed32 b wall at 32) where
  pub date-cut : (n : Refusal) → r ≡ Err n → value_is b (Err n) ≡ words_of (dated (stamp clock)) (simple_at (dated (stamp clock)) b wall at)
  unfolding simple_at code_at
  date-cut n g = fault-read clock b n _ (then-fault _ (read-refuse (fixed-is b wall at 0 r e) g))

  module _ (days : ℕ) (p : Bits) (g : r ≡ Ok (days, p)) where
    pub date-clock : (x : Valued) → clock ≡ true → value_is b x ≡ words_of (dated (stamp true)) (untexted (clock_at true b wall days p.0))
        → value_is b x ≡ words_of (dated (stamp clock)) (simple_at (dated (stamp clock)) b wall at)
    unfolding simple_at code_at
    date-clock x t f = f ∙ sym (rw t (ap (λ (m : Res (ℕ × ℕ)). words_of (dated (stamp true)) (untexted m)) (then _ (read-value (fixed-is b wall at 0 r e) g) refl)))

    pub date-plain : (x : value_t.Value) → clock ≡ false → days < 2 ^ 32 → x ≡ vv.Dated (month_word (date_of days)) (day_word (date_of days) 0) p
        → value_is b (Ok x) ≡ words_of (dated (stamp clock)) (simple_at (dated (stamp clock)) b wall at)
    unfolding simple_at code_at clock_at
    date-plain x t h f = rw t (words-read false b days 0 p _ x h (omega arith) (then _ (read-value (fixed-is b wall at 0 r e) g) refl) f)

pub ruleset date_ways = (date-cut, date-clock, date-plain)

-- stamp_of
module _ (clock : Bool) (p q : ℕ) (small : q < 2 ^ 32) (d : Option ℕ) (e : d ≡ day_by (p / 16) (p % 16) (q / 134217728)) where
  day-is : day_in (joined p q) ≡ d
  unfolding day_in
  day-is = let j = joined-parts p q small in rw (j.0, j.1) (sym e)

  clock-is : clock_in (joined p q) ≡ q % 134217728
  clock-is = let j = joined-parts p q small in rw j.1

  pub stamp-nothing : d ≡ None → stamp_is clock (Err refusal.OutsideRow) ≡ code_out (stamp clock) (joined p q)
  unfolding code_out fits day_fits stamp_is
  stamp-nothing g = sym (tested-fault outside_row _ (rw (day-is, g)))

  module _ (n : ℕ) (g : d ≡ Some n) where
    pub stamp-over : clock_end clock ≤ q % 134217728 → stamp_is clock (Err refusal.OutsideRow) ≡ code_out (stamp clock) (joined p q)
    unfolding code_out fits day_fits stamp_is
    stamp-over h = sym (tested-fault outside_row _ (rw (day-is, g, clock-is) (le-ltb (q % 134217728) (clock_end clock) h)))

    pub stamp-in : q % 134217728 < clock_end clock → stamp_is clock (Ok (record { days = n; ms = q % 134217728 })) ≡ code_out (stamp clock) (joined p q)
    unfolding code_out fits bits_of day_fits day_bits stamp_is
    stamp-in h = sym (tested-then outside_row (rw (day-is, g, clock-is) (lt-ltb (q % 134217728) (clock_end clock) h)) (rw (day-is, g, clock-is)))

pub ruleset stamp_ways = (stamp-nothing, stamp-over, stamp-in)
