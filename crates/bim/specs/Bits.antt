-- THE LENT BIT READER'S CALLS FOR C, on every input: the number given back, and the area of three words.
use Rattle.std.specs.Prelude.{ℕ, cond, List, [], ◌∷◌, eqb}
use Rattle.numbers.specs.Refusal.{area_size}
use Rattle.numbers.specs.Limit.{bits_area}
use Rattle.bit_reader.specs.Codes.{Told, reading_at}
use Rattle.bit_reader.specs.declared.codes.Coding.{Coding}
use Rattle.buffers.specs.Bytes.{bytes_of}
use Rattle.call_parts.specs.Calls.{Back, back, zeros}

-- value, place, bits left
abbrev pub code_words : Told → List ℕ
code_words a = a.value ∷ a.place ∷ a.left ∷ []

abbrev pub told : Told → Back
told a = back a.number (bytes_of (code_words a)) []

-- bytes, place, coding; bytes of the area. The size first: an area of another one is zero throughout
unfoldable pub bits_call : List ℕ → ℕ → Coding → ℕ → Back
bits_call s at c area = cond (eqb area bits_area) (told (reading_at s at c)) (back area_size (zeros area) [])
