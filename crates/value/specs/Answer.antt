-- The enums that the code takes and answers, as the meanings have them.
use Rattle.std.specs.Prelude.{ℕ, ◌+◌, ◌-◌, ◌*◌, ◌^◌, ◌≤◌, ◌≡◌, Bool, List, [], length, Result, Ok, Err}
use Rattle.numbers.specs.declared.refusal.Refusal.{Refusal}
use Rattle.numbers.specs.Refused.{number_of}
use Rattle.wire.specs.declared.Bits.{Bits}
use Rattle.wire.specs.Res.{Res, got, fault}
use Rattle.wire.specs.Bits.{bit_at}
use Rattle.wire.specs.Put.{Wrote}
use Rattle.value.specs.Code.{Code, choice, five, signed, some, shifted, stamp, clock_at}
use Rattle.value.specs.Simple.{Simple, plain, text, dated, bytes, bytes_at, untexted, simple_at, words_of}
use Rattle.value.specs.Dates.{stamp_bits}
use Rattle.value.specs.declared.Inner as inner_t
use Rattle.value.specs.declared.Inner.TheVariants as iv
use Rattle.value.specs.declared.Code as code_t
use Rattle.value.specs.declared.Code.TheVariants as cv
use Rattle.value.specs.declared.Form as form_t
use Rattle.value.specs.declared.Form.TheVariants as fv
use Rattle.value.specs.declared.Value as value_t
use Rattle.value.specs.declared.Value.TheVariants as vv
use Rattle.value.specs.declared.Stamp as stamp_t

-- what a function answers that reads a value, one that sizes a code, and one that judges a date
abbrev pub Valued : Type 0
Valued = Result value_t.Value Refusal

abbrev pub Sized : Type 0
Sized = Result Bits Refusal

abbrev pub Stamping : Type 0
Stamping = Result stamp_t.Stamp Refusal

unfoldable pub inner_is : inner_t.Inner → Code
inner_is (iv.Choice n) = choice n
inner_is (iv.Five m) = five m

unfoldable pub code_is : code_t.Code → Code
code_is (cv.Plain i) = inner_is i
code_is cv.Word = choice (2 ^ 32)
code_is cv.Signed = signed
code_is (cv.Some i) = some (inner_is i)
code_is (cv.Shifted lo i) = shifted lo (inner_is i)

unfoldable pub form_is : form_t.Form → Simple
form_is (fv.Number c) = plain (code_is c)
form_is fv.Text = text
form_is (fv.Dated clock) = dated (stamp clock)

-- a value's words, its text bytes, which end where it does, and the place past it
unfoldable pub value_is : (ℕ → ℕ) → Valued → Res (ℕ × ℕ × List ℕ × ℕ)
value_is b (Ok (vv.Read word n next)) = got (word, 0, bytes_at b (next.0 - 8 * n.0) n.0, next.0)
value_is b (Ok (vv.Dated p q next)) = got (p, q, [], next.0)
value_is b (Err e) = fault (number_of e)

-- the value is what stands at a place of the payload s, before the wall
abbrev pub ReadsSimple : (s : List ℕ) → Valued → Simple → (wall at : ℕ) → Type 0
ReadsSimple s v f wall at = value_is (bit_at s) v ≡ words_of f (simple_at f (bit_at s) wall at)

-- the same behind the days of a date
abbrev pub ReadsClock : (s : List ℕ) → Valued → (clock : Bool) (wall days at : ℕ) → Type 0
ReadsClock s v clock wall days at = value_is (bit_at s) v ≡ words_of (dated (stamp clock)) (untexted (clock_at clock (bit_at s) wall days at))

-- of s came t, with a text's bytes from a place on
abbrev pub WroteBytes : (s t : List ℕ) (at : ℕ) (l : List ℕ) → Type 0
WroteBytes s t at l = Wrote s t at (bytes l) (at + 8 * length l)

unfoldable pub size_is : Sized → Res ℕ
size_is (Ok n) = got n.0
size_is (Err e) = fault (number_of e)

-- a date's bits, by its day number and milliseconds
unfoldable pub stamp_is : Bool → Stamping → Res (List ℕ)
stamp_is clock (Ok day) = got (stamp_bits clock day.days day.ms)
stamp_is clock (Err e) = fault (number_of e)

-- so many bits at most
abbrev pub Under : ℕ → Sized → Type 0
Under k (Ok n) = n.0 ≤ k
Under k (Err e) = Unit {0}
