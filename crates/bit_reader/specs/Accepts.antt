-- What it is for the bit reader to accept: a value of the coding, and its bits, stand at the place.
use Rattle.std.specs.Prelude.{ℕ, ◌+◌, ◌^◌, ◌<◌, ◌≤◌, ◌≡◌, List}
use Rattle.wire.specs.Bits.{bit_at, digits}
use Rattle.wire.specs.Number.{code5, code8}
use Rattle.wire.specs.Lawful.{Stands}
use Rattle.bit_reader.specs.Codes.{Told, wall_of}
use Rattle.bit_reader.specs.declared.codes.Coding.{Coding}
use Rattle.bit_reader.specs.declared.codes.Coding.TheVariants.{Fixed, Five, Eight}

-- the values that a coding has, and their bits
abbrev pub IsValue : Coding → ℕ → Type 0
IsValue (Fixed w) v = (w ≤ 32) × (v < 2 ^ w)
IsValue Five v = v < 2 ^ 32
IsValue Eight v = v < 2 ^ 14

abbrev pub coding_bits : Coding → ℕ → List ℕ
coding_bits (Fixed w) v = digits w v
coding_bits Five v = code5 v
coding_bits Eight v = code8 v

-- THE NUMBER 0: the value is one of the coding's, its bits stand from the place on up to the place answered, below the wall, and what is left begins there
pub record Accepts (s : List ℕ) (at : ℕ) (c : Coding) (a : Told) : Type 0 where
  pub code : Stands (bit_at s) (IsValue c a.value) (coding_bits c a.value) (wall_of s) at a.place
  pub left : a.place + a.left ≡ wall_of s
