-- ITEMS of a start-up message: what stands on the wire (001:1154-1176, 3310-3374), how it is judged, and which words it is told in.
use Rattle.std.specs.Prelude.{ℕ, ◌+◌, ◌-◌, ◌*◌, ◌/◌, ◌%◌, Bool, true, false, cond, List, [], ◌∷◌, ltb, leb, eqb, get_or}
use Rattle.numbers.specs.Refusal.{accepted, past_end, not_shortest, too_large, no_such_code, reserved_bits, no_schemas, many_schemas, advanced_flag}
use Rattle.numbers.specs.Limit.{most_schemas, most_unit}
use Rattle.wire.specs.Res.{Res, got, fault, guard, at_most, ◌>>=◌, ◌>>◌}
use Rattle.init.specs.declared.Item.{Item}
use Rattle.init.specs.declared.Item.TheVariants.{Number, UnitByte, Length, Flags, Schemas, Uri, Text, Formats, NoFlags, NoFormats}

-- A byte below the wall, and the place past it. Places here are bytes.
unfoldable pub byte_at : List ℕ → ℕ → ℕ → Res (ℕ × ℕ)
byte_at s wall at = cond (ltb at wall) (got (get_or s at 0, at + 1)) (fault past_end)

-- The second byte of a vluimsbf8, after seven bits that are x: its top bit set is too large; with x 0 one byte would have done.
unfoldable pub second_at : List ℕ → ℕ → ℕ → ℕ → Res (ℕ × ℕ)
second_at s wall x at = byte_at s wall at >>= λ r. cond (ltb r.0 128) (cond (eqb x 0) (fault not_shortest) (got (x * 128 + r.0, r.1))) (fault too_large)

-- A vluimsbf8 of at most two bytes: the wire's own `read8` at whole bytes (proofs/Wire).
unfoldable pub number_at : List ℕ → ℕ → ℕ → Res (ℕ × ℕ)
number_at s wall at = byte_at s wall at >>= λ r. cond (ltb r.0 128) (got (r.0, r.1)) (second_at s wall (r.0 - 128) r.1)

-- An item's number is a vluimsbf8 or a byte, or there is none.
pub data Head : Type 0 where
  eight : Head
  byte : Head
  nothing : Head

unfoldable pub head_of : Item → Head
head_of Number = eight
head_of UnitByte = byte
head_of Length = eight
head_of (Flags n) = byte
head_of Schemas = eight
head_of Uri = eight
head_of Text = eight
head_of Formats = byte
head_of NoFlags = nothing
head_of NoFormats = nothing

unfoldable pub head_at : Head → List ℕ → ℕ → ℕ → Res (ℕ × ℕ)
head_at eight s wall at = number_at s wall at
head_at byte s wall at = byte_at s wall at
head_at nothing s wall at = got (0, at)

-- The number judged: 0, or the refusal. Of the unit byte the four lowest bits are ones, and unit code 111 is reserved.
unfoldable pub before : Item → ℕ → ℕ
before Number v = accepted
before UnitByte v = cond (eqb (v % 16) 15) (cond (leb (v / 32) most_unit) accepted no_such_code) reserved_bits
before Length v = cond (eqb v 0) no_such_code accepted
before (Flags n) v = accepted
before Schemas v = cond (eqb v 0) no_schemas (cond (leb v most_schemas) accepted many_schemas)
before Uri v = cond (eqb v 0) no_such_code accepted
before Text v = accepted
before Formats v = accepted
before NoFlags v = accepted
before NoFormats v = accepted

-- The bytes that follow the number; of n bytes of flags the first is the number.
unfoldable pub body : Item → ℕ → ℕ
body Number v = 0
body UnitByte v = 0
body Length v = 0
body (Flags n) v = n - 1
body Schemas v = 0
body Uri v = v
body Text v = v
body Formats v = v
body NoFlags v = 0
body NoFormats v = 0

-- Judged once they are there: seven flags are the highest bits of a byte, and the second, third and fourth of them are not taken.
unfoldable pub after : Item → ℕ → ℕ
after Number v = accepted
after UnitByte v = accepted
after Length v = accepted
after (Flags n) v = cond (eqb (v / 16 % 8) 0) accepted advanced_flag
after Schemas v = accepted
after Uri v = accepted
after Text v = accepted
after Formats v = accepted
after NoFlags v = accepted
after NoFormats v = accepted

-- An item read: its number, the place past that, and the place past the item.
unfoldable pub pass : ℕ → Res Unit
pass e = guard (eqb e accepted) e

unfoldable pub rest_at : Item → (wall v p : ℕ) → Res (ℕ × ℕ × ℕ)
rest_at i wall v p = pass (before i v) >> (at_most (p + body i v) wall past_end >> (pass (after i v) >> got (v, p, p + body i v)))

unfoldable pub item_at : Item → List ℕ → ℕ → ℕ → Res (ℕ × ℕ × ℕ)
item_at i s wall at = head_at (head_of i) s wall at >>= λ r. rest_at i wall r.0 r.1

-- Its words, one or two: of a stretch the byte place and the count; of the flags' length the bits stepped over, of the flags these and the
-- first bit stepped over.
unfoldable pub two : Item → Bool
two Number = false
two UnitByte = false
two Length = false
two (Flags n) = true
two Schemas = false
two Uri = true
two Text = true
two Formats = true
two NoFlags = true
two NoFormats = false

unfoldable pub one : Item → (v p : ℕ) → ℕ
one Number v p = v
one UnitByte v p = v / 32
one Length v p = 8 * v - 7
one (Flags n) v p = v / 2
one Schemas v p = v
one Uri v p = p
one Text v p = p
one Formats v p = p
one NoFlags v p = 0
one NoFormats v p = 0

unfoldable pub other : Item → (v p : ℕ) → ℕ
other Number v p = 0
other UnitByte v p = 0
other Length v p = 0
other (Flags n) v p = v % 2
other Schemas v p = 0
other Uri v p = v
other Text v p = v
other Formats v p = v
other NoFlags v p = 0
other NoFormats v p = 0

unfoldable pub laid : Bool → ℕ → ℕ → List ℕ
laid true a b = a ∷ b ∷ []
laid false a b = a ∷ []

unfoldable pub words : Item → (v p : ℕ) → List ℕ
words i v p = laid (two i) (one i v p) (other i v p)

-- On the wire: the shortest vluimsbf8, a byte, or nothing.
unfoldable pub bytes8 : ℕ → List ℕ
bytes8 v = cond (ltb v 128) (v ∷ []) ((128 + v / 128) ∷ v % 128 ∷ [])

unfoldable pub head_bytes : Head → ℕ → List ℕ
head_bytes eight v = bytes8 v
head_bytes byte v = v ∷ []
head_bytes nothing v = []
