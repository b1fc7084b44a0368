-- The codes of one number: which numbers a code has, their bits, its reading, the writer's test. Whatever else is read or written
-- goes by these names and their laws, so that a new code is a case here and nowhere else.
use Rattle.std.specs.Prelude.{ℕ, zero, suc, ◌+◌, ◌-◌, ◌%◌, ◌<◌, ◌≤◌, ◌^◌, min, Bool, true, false, cond, List, ◌++◌, leb, ltb, length}
use Rattle.numbers.specs.Refusal.{too_large, no_such_code, minus_zero, outside_row}
use Rattle.wire.specs.Res.{Res, got, ◌>>=◌, ◌>>◌, guard, at_most}
use Rattle.wire.specs.Bits.{fixed_at, digits}
use Rattle.wire.specs.Width.{width}
use Rattle.wire.specs.Number.{read5, code5}
use Rattle.numbers.specs.Limit.{day_milliseconds}
use Rattle.calendar.specs.Formulas.{date_by}
use Rattle.signed.specs.Words.{up, down, sign_of, magnitude_of, word_of}
use Rattle.value.specs.Dates.{stamp_of, Stamped, day_in, clock_in, day_bits, day_fits}

pub data Code : Type 0 where
  -- one of n, in the width of n
  choice : (n : ℕ) → Code
  -- vluimsbf5, up to a limit
  five : (most : ℕ) → Code
  -- a sign bit and a vluimsbf5 magnitude; the word is two's complement
  signed : Code
  -- a bit for none, or a bit and the number, which is not 0
  some : Code → Code
  -- the word word_less lo, modulo 2^32
  shifted : (lo : ℕ) → Code → Code
  -- days and, with a clock, milliseconds; the value is the date's two words
  stamp : (clock : Bool) → Code

-- the word v word_less the word lo
abbrev pub word_less : ℕ → ℕ → ℕ
word_less lo v = down (lo % 2 ^ 32) v

-- the numbers, and their bits
unfoldable pub HasCode : Code → ℕ → Type 0
HasCode (choice n) v = v < n
HasCode (five most) v = v ≤ min most (2 ^ 32 - 1)
HasCode signed v = v < 2 ^ 32
HasCode (some c) zero = Unit
HasCode (some c) (suc k) = HasCode c (suc k)
HasCode (shifted lo c) v = (v < 2 ^ 32) × HasCode c (word_less lo v)
HasCode (stamp clock) v = Stamped clock v

abbrev pub choice_bits : ℕ → ℕ → List ℕ
choice_bits n v = digits (width n) v

unfoldable pub bits_of : Code → ℕ → List ℕ
bits_of (choice n) v = choice_bits n v
bits_of (five most) v = code5 v
bits_of signed v = choice_bits 2 (sign_of v) ++ code5 (magnitude_of v)
bits_of (some c) zero = choice_bits 2 0
bits_of (some c) (suc k) = choice_bits 2 1 ++ bits_of c (suc k)
bits_of (shifted lo c) v = bits_of c (word_less lo v)
bits_of (stamp clock) v = day_bits clock (day_in v) (clock_in v)

-- the reading: a fixed width may name nothing, a vluimsbf5 be over its limit
unfoldable pub choice_at : (ℕ → ℕ) → ℕ → ℕ → ℕ → Res (ℕ × ℕ)
choice_at b n wall at = do
  (v, p) ← fixed_at b wall at (width n)
  at_most (v + 1) n no_such_code
  got (v, p)

unfoldable pub number_at : (ℕ → ℕ) → ℕ → ℕ → ℕ → Res (ℕ × ℕ)
number_at b most wall at = do
  (v, p) ← read5 b wall at
  at_most v most too_large
  got (v, p)

-- after the sign, the limit before minus zero; after the bit that says whether there are some, none of them names nothing
unfoldable pub signed_of : ℕ → ℕ → ℕ → Res (ℕ × ℕ)
signed_of zero m p = do
  at_most (m + 1) (2 ^ 31) too_large
  got (word_of 0 m, p)
signed_of (suc k) m p = do
  at_most m (2 ^ 31) too_large
  at_most 1 m minus_zero
  got (word_of 1 m, p)

unfoldable pub some_of : (ℕ → Res (ℕ × ℕ)) → ℕ → ℕ → Res (ℕ × ℕ)
some_of rd zero p = got (0, p)
some_of rd (suc k) p = do
  (v, q) ← rd p
  at_most 1 v no_such_code
  got (v, q)

-- after the days: all bits are there before the milliseconds are judged
unfoldable pub clock_at : Bool → (ℕ → ℕ) → ℕ → ℕ → ℕ → Res (ℕ × ℕ)
clock_at true b wall n p = do
  (ms, q) ← fixed_at b wall p 32
  at_most (ms + 1) day_milliseconds no_such_code
  got (stamp_of (date_by n) ms, q)
clock_at false b wall n p = got (stamp_of (date_by n) 0, p)

unfoldable pub code_at : Code → (ℕ → ℕ) → ℕ → ℕ → Res (ℕ × ℕ)
code_at (choice n) b wall at = choice_at b n wall at
code_at (five most) b wall at = number_at b most wall at
code_at signed b wall at = do
  (s, p) ← choice_at b 2 wall at
  (m, q) ← read5 b wall p
  signed_of s m q
code_at (some c) b wall at = do
  (f, p) ← choice_at b 2 wall at
  some_of (code_at c b wall) f p
code_at (shifted lo c) b wall at = do
  (k, p) ← code_at c b wall at
  at_most (k + 1) (2 ^ 32) too_large
  got (up lo k, p)
code_at (stamp clock) b wall at = do
  (n, p) ← fixed_at b wall at 32
  clock_at clock b wall n p

-- the writer's test, and the code where it holds
unfoldable pub fits : Code → ℕ → Bool
fits (choice n) v = ltb v n
fits (five most) v = leb v (min most (2 ^ 32 - 1))
fits signed v = ltb v (2 ^ 32)
fits (some c) zero = true
fits (some c) (suc k) = fits c (suc k)
fits (shifted lo c) v = cond (ltb v (2 ^ 32)) (fits c (word_less lo v)) false
fits (stamp clock) v = day_fits clock (day_in v) (clock_in v)

unfoldable pub code_out : Code → ℕ → Res (List ℕ)
code_out c v = guard (fits c v) outside_row >> got (bits_of c v)

-- how many bits that is
unfoldable pub size_out : Code → ℕ → Res ℕ
size_out c v = guard (fits c v) outside_row >> got (length (bits_of c v))
