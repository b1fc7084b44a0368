-- The values of the simple kinds, as document 01's table has them: kind, parameters b and c, a Value's words, text bytes.
-- No code and no bit is named here; `ValueLaws.antt` proves that each kind's code has these values and no others.
use Rattle.std.specs.Prelude.{ℕ, ◌<◌, ◌≤◌, ◌^◌, List, [], length}
use Rattle.numbers.specs.Limit.{day_milliseconds}
use Rattle.calendar.specs.Plain.{date_of}
use Rattle.signed.specs.Words.{rank}
use Rattle.utf8.specs.Rfc as rfc
use Rattle.utf8.specs.Controls.{AllAllowed}
use Rattle.value.specs.Dates.{month_word, day_word}

pub data InKind : (kind b c p q : ℕ) → List ℕ → Type 0 where
  boolean : {b c v : ℕ} → v < 2 → InKind 0 b c v 0 []
  -- from b to c in the order of the signed numbers (a word's rank is its place in that order)
  ranged : {b c v : ℕ} → v < 2 ^ 32 → rank b ≤ rank v → rank v ≤ rank c → InKind 1 b c v 0 []
  unsigned : {b c v : ℕ} → v < 2 ^ 32 → InKind 2 b c v 0 []
  signed : {b c v : ℕ} → v < 2 ^ 32 → InKind 3 b c v 0 []
  enumeration : {b c v : ℕ} → v < b → InKind 4 b c v 0 []
  -- the value word is the count of the text's bytes, which are UTF-8 without control characters
  text : {b c : ℕ} {X : List ℕ} → length X ≤ 4095 → rfc.Octets X → AllAllowed X → InKind 5 b c (length X) 0 X
  float : {b c v : ℕ} → v < 2 ^ 32 → InKind 6 b c v 0 []
  -- every day number of 32 bits, as the plain calendar has it, and milliseconds of the day
  date_time : {b c : ℕ} (days ms : ℕ) → days < 2 ^ 32 → ms < day_milliseconds → InKind 7 b c (month_word (date_of days)) (day_word (date_of days) ms) []
  date : {b c : ℕ} (days : ℕ) → days < 2 ^ 32 → InKind 8 b c (month_word (date_of days)) (day_word (date_of days) 0) []
