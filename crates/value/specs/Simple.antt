-- Which code a row of the table asks for: ranges (001, 8.5.4.2.1), occurrences (8.5.2.4), the simple kinds of document 01; and texts.
use Rattle.std.specs.Prelude.{ℕ, zero, suc, ◌+◌, ◌-◌, ◌*◌, ◌^◌, ◌<◌, min, ◌≡◌, true, false, cond, List, [], ◌∷◌, ◌++◌, leb, ltb, eqb, length}
use Rattle.numbers.specs.Refusal.{past_end}
use Rattle.numbers.specs.Simple.{of_simple_or}
use Rattle.numbers.specs.Limit.{most_fixed, most_text, most_times, unbounded}
use Rattle.wire.specs.Res.{Res, got, fault, ◌>>=◌, ◌>>◌, at_most}
use Rattle.wire.specs.Bits.{num, digits}
use Rattle.signed.specs.Words.{Gap, under, by, gap_of}
use Rattle.utf8.specs.Text.{text_fault}
use Rattle.value.specs.Code.{Code, choice, five, signed, some, shifted, stamp, HasCode, bits_of, code_at}
use Rattle.value.specs.Dates.{joined, first_of, second_of}

-- one of no choices: no word names anything
abbrev pub nothing : Code
nothing = choice 0

-- a value from b on: up to most_fixed over it in the fixed width, else in vluimsbf5
unfoldable pub span_code : ℕ → Gap → Code
span_code b under = nothing
span_code b (by k) = shifted b (cond (leb k most_fixed) (choice (k + 1)) (five k))

unfoldable pub range_code : ℕ → ℕ → Code
range_code b c = span_code b (gap_of b c)

-- a count with no end, up to most_times; one of none to most; one of least to most
unfoldable pub unbounded_code : ℕ → Code
unbounded_code zero = some (five most_times)
unbounded_code (suc k) = shifted (suc k) (five (most_times - suc k))

unfoldable pub bounded_code : ℕ → ℕ → Code
bounded_code zero most = cond (leb most 1) (choice (most + 1)) (some (choice (most + 1)))
bounded_code (suc k) most = shifted (suc k) (choice (most - suc k + 1))

-- a row with least over most or over most_times, or with most over unbounded, lets no count come
unfoldable pub times_code : ℕ → ℕ → Code
times_code least most = cond (ltb (min most most_times) least) nothing (cond (ltb unbounded most) nothing (cond (eqb most unbounded) (unbounded_code least) (bounded_code least most)))

-- none, or one of n, counted from 1: a bit 0, or a bit 1 and the number less one in the width of n; no bits where there are none to choose from
unfoldable pub one_of : ℕ → Code
one_of zero = choice 1
one_of (suc n) = some (shifted 1 (choice (suc n)))

-- a number, a text, or a date
pub data Simple : Type 0 where
  plain : Code → Simple
  text : Simple
  dated : Code → Simple

unfoldable pub simple_of : ℕ → ℕ → ℕ → Simple
simple_of kind b c =
    of_simple_or (plain nothing)
    record {
      boolean = plain (choice 2);
      ranged = plain (range_code b c);
      unsigned = plain (five (2 ^ 32 - 1));
      signed = plain signed;
      enumeration = plain (choice b);
      text = text;
      float = plain (choice (2 ^ 32));
      date_time = dated (stamp true);
      date = dated (stamp false);
    }
    kind

-- the words p and q that a value has in its event, and the value that they have: both words of a date, one of any other
unfoldable pub first_word : Simple → ℕ → ℕ
first_word (plain c) v = v
first_word text v = v
first_word (dated c) v = first_of v

unfoldable pub second_word : Simple → ℕ → ℕ
second_word (plain c) v = 0
second_word text v = 0
second_word (dated c) v = second_of v

unfoldable pub value_of : Simple → (p q : ℕ) → ℕ
value_of (plain c) p q = p
value_of text p q = p
value_of (dated c) p q = joined p q

-- a text's byte count
abbrev pub count : Code
count = five most_text

-- bytes as bits, and the n bytes from a place on
unfoldable pub bytes : List ℕ → List ℕ
bytes [] = []
bytes (x ∷ l) = digits 8 x ++ bytes l

unfoldable pub bytes_at : (ℕ → ℕ) → ℕ → ℕ → List ℕ
bytes_at b at zero = []
bytes_at b at (suc n) = num b at 8 ∷ bytes_at b (at + 8) n

abbrev pub AllBytes : List ℕ → Type 0
AllBytes [] = Unit
AllBytes (x ∷ l) = (x < 256) × AllBytes l

-- refused with what is wrong with it, unless that is nothing
unfoldable pub unless : ℕ → Res Unit
unless zero = got tt
unless (suc n) = fault (suc n)

-- after a text's count: its bytes, below the wall, and nothing wrong with them
unfoldable pub text_of : (ℕ → ℕ) → ℕ → ℕ → ℕ → Res (ℕ × List ℕ × ℕ)
text_of b wall n p = do
  at_most (p + 8 * n) wall past_end
  unless (text_fault (bytes_at b p n))
  got (n, bytes_at b p n, p + 8 * n)

-- a value that has no text
unfoldable pub untexted : Res (ℕ × ℕ) → Res (ℕ × List ℕ × ℕ)
untexted m = do
  (v, p) ← m
  got (v, [], p)

-- the reading: value, text bytes, place past it
unfoldable pub simple_at : Simple → (ℕ → ℕ) → ℕ → ℕ → Res (ℕ × List ℕ × ℕ)
simple_at (plain c) b wall at = do
  (v, p) ← code_at c b wall at
  got (v, [], p)
simple_at text b wall at = do
  (n, p) ← code_at count b wall at
  text_of b wall n p
simple_at (dated c) b wall at = untexted (code_at c b wall at)

-- the same with the value's words
unfoldable pub words_of : Simple → Res (ℕ × List ℕ × ℕ) → Res (ℕ × ℕ × List ℕ × ℕ)
words_of s m = do
  (v, ts, p) ← m
  got (first_word s v, second_word s v, ts, p)

-- what may stand: a value word, its text bytes, its bits
pub data SimpleIs : Simple → ℕ → List ℕ → List ℕ → Type 0 where
  a_code : {c : Code} {v : ℕ} → HasCode c v → SimpleIs (plain c) v [] (bits_of c v)
  a_text : {l : List ℕ} → HasCode count (length l) → AllBytes l → text_fault l ≡ 0 → SimpleIs text (length l) l (bits_of count (length l) ++ bytes l)
  a_date : {c : Code} {v : ℕ} → HasCode c v → SimpleIs (dated c) v [] (bits_of c v)
