-- What a bit reader answers: one code as the wire has it, with the wall at the slice's end.
use Rattle.std.specs.Prelude.{ℕ, ◌-◌, ◌*◌, min, List, length, Result, Ok, Err}
use Rattle.numbers.specs.declared.refusal.Refusal.{Refusal}
use Rattle.numbers.specs.Refused.{answered as number_answered}
use Rattle.numbers.specs.Limit.{most_word}
use Rattle.wire.specs.Res.{Res, got, fault}
use Rattle.wire.specs.Bits.{bit_at}
use Rattle.wire.specs.Number.{read5, read8}
use Rattle.wire.specs.Answer.{fixed32}
use Rattle.bit_reader.specs.declared.codes.Coding.{Coding}
use Rattle.bit_reader.specs.declared.codes.Coding.TheVariants.{Fixed, Five, Eight}
use Rattle.bit_reader.specs.declared.codes.Reading.{Reading}

-- the first bit that is not fetched: the end of the slice, or 2^32 - 1, where places stop
abbrev pub wall_of : List ℕ → ℕ
wall_of s = min (8 * length s) most_word

-- the bits from a place on; none past the wall
abbrev pub left_at : List ℕ → ℕ → ℕ
left_at s at = wall_of s - at

-- what is told of a code: 0 or the number of a refusal, its value, a place, and the bits from there on
pub record Told : Type 0 where
  pub number : ℕ
  pub value : ℕ
  pub place : ℕ
  pub left : ℕ

-- the value, 0 where the code is refused
abbrev pub value_in : Result ℕ Refusal → ℕ
value_in (Ok v) = v
value_in (Err e) = 0

abbrev pub reading_is : Reading → Told
reading_is a = record { number = number_answered a.code; value = value_in a.code; place = a.place.0; left = a.left.0 }

-- a code's value and the place past it, or a refusal
unfoldable pub coded : Coding → (ℕ → ℕ) → ℕ → ℕ → Res (ℕ × ℕ)
coded (Fixed w) b wall at = fixed32 b wall at w
coded Five b wall at = read5 b wall at
coded Eight b wall at = read8 b wall at

-- past the code, or where it was on a refusal; and the bits left there
unfoldable pub answered : List ℕ → ℕ → Res (ℕ × ℕ) → Told
answered s at (got r) = record { number = 0; value = r.0; place = r.1; left = left_at s r.1 }
answered s at (fault n) = record { number = n; value = 0; place = at; left = left_at s at }

unfoldable pub reading_at : List ℕ → ℕ → Coding → Told
reading_at s at c = answered s at (coded c (bit_at s) (wall_of s) at)
