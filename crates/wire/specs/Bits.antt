-- A payload as bits: a source gives the bit at each place, and a reading goes by places below a wall.
use Rattle.std.specs.Prelude.{ℕ, zero, suc, ◌+◌, ◌-◌, ◌*◌, ◌/◌, ◌%◌, ◌^◌, ◌≡◌, cond, List, [], ◌∷◌, ◌++◌, get_or, leb}
use Rattle.numbers.specs.Refusal.{past_end}
use Rattle.wire.specs.Res.{Res, got, fault}

-- bit i of the bytes s, from the most significant bit of byte 0
unfoldable pub bit_at : List ℕ → ℕ → ℕ
bit_at s i = get_or s (i / 8) 0 / 2 ^ (7 - i % 8) % 2

-- the number that the w bits from at are, the first bit the highest
unfoldable pub num : (ℕ → ℕ) → ℕ → ℕ → ℕ
num b at zero = 0
num b at (suc w) = num b at w * 2 + b (at + w)

-- w bits and the place past them, or past_end where one of them is at the wall or past it
unfoldable pub fixed_at : (ℕ → ℕ) → ℕ → ℕ → ℕ → Res (ℕ × ℕ)
fixed_at b wall at w = cond (leb (at + w) wall) (got (num b at w, at + w)) (fault past_end)

-- the w lowest bits of v, the highest first
unfoldable pub digits : ℕ → ℕ → List ℕ
digits zero v = []
digits (suc w) v = digits w (v / 2) ++ (v % 2 ∷ [])

-- the bits l stand in the source b from the place at on
abbrev pub Has : (ℕ → ℕ) → ℕ → List ℕ → Type 0
Has b at [] = Unit
Has b at (x ∷ l) = (b at ≡ x) × Has b (at + 1) l

-- a list of bits as a source
abbrev pub source : List ℕ → ℕ → ℕ
source l i = get_or l i 0
