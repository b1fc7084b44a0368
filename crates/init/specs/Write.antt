-- THE WRITING of a start-up message from its words and the bytes that their stretches lie in, or a refusal at a word. Refusals, their
-- order and their places are here.
use Rattle.std.specs.Prelude.{ℕ, ◌+◌, ◌-◌, ◌*◌, ◌/◌, ◌%◌, Bool, true, cond, List, [], ◌++◌, ltb, leb, eqb, length, get_or, take, drop, replicate}
use Rattle.numbers.specs.Refusal.{no_reading, outside_row, payload_room, text_bytes, no_schemas, many_schemas, advanced_flag}
use Rattle.numbers.specs.Limit.{init_words, most_vlu8, most_formats, most_schemas, most_unit}
use Rattle.init.specs.declared.Item.{Item}
use Rattle.init.specs.declared.Item.TheVariants.{Number, UnitByte, Length, Flags, Schemas, Uri, Text, Formats, NoFlags, NoFormats}
use Rattle.init.specs.declared.Slot.{Slot}
use Rattle.init.specs.declared.Slot.TheVariants.{Init, Codecs}
use Rattle.init.specs.Items.{head_of, head_bytes, two}
use Rattle.init.specs.Plan.{Plan, plan}
use Rattle.init.specs.Plan.Plan.{done, item}

-- an item's number by the two words at its slot, or what is wrong with which of them
pub data Value : Type 0 where
  value : ℕ → Value
  wrong : (number word : ℕ) → Value

abbrev pub within : ℕ → ℕ → ℕ → Value
within v most word = cond (leb v most) (value v) (wrong outside_row word)

-- whether there are flags stands in the word after the unit's: the bits stepped over, 0 without flags. The first bit stepped over is not written
unfoldable pub value_of : Item → (a b : ℕ) → Value
value_of Number a b = within a most_vlu8 0
value_of UnitByte a b = cond (leb a most_unit) (value (32 * a + cond (eqb b 0) 31 15)) (wrong outside_row 0)
value_of Length a b = cond (eqb (a % 8) 1) (within ((a + 7) / 8) most_vlu8 0) (wrong outside_row 0)
value_of (Flags n) a b =
    cond (leb a 127) (cond (eqb (a / 8 % 8) 0) (cond (eqb b 0) (value (2 * a)) (wrong outside_row 1)) (wrong advanced_flag 0)) (wrong outside_row 0)
value_of Schemas a b = cond (eqb a 0) (wrong no_schemas 0) (cond (leb a most_schemas) (value a) (wrong many_schemas 0))
value_of Uri a b = cond (eqb b 0) (wrong outside_row 1) (within b most_vlu8 1)
value_of Text a b = within b most_vlu8 1
value_of Formats a b = within b most_formats 1
value_of NoFlags a b = cond (eqb a 0) (cond (eqb b 0) (value 0) (wrong outside_row 1)) (wrong outside_row 0)
value_of NoFormats a b = cond (eqb a 0) (value 0) (wrong outside_row 0)

-- the bytes that follow the number: a stretch of those given, from the place a on; or zeros for the bits stepped over
pub data Content : Type 0 where
  stretch : Content
  zeros : ℕ → Content

unfoldable pub content_of : Item → Content
content_of Number = zeros 0
content_of UnitByte = zeros 0
content_of Length = zeros 0
content_of (Flags n) = zeros (n - 1)
content_of Schemas = zeros 0
content_of Uri = stretch
content_of Text = stretch
content_of Formats = stretch
content_of NoFlags = zeros 0
content_of NoFormats = zeros 0

-- a stretch ends among the bytes given
unfoldable pub lies_of : Content → (bytes a v : ℕ) → Bool
lies_of stretch bytes a v = leb (a + v) bytes
lies_of (zeros n) bytes a v = true

unfoldable pub content : Content → (given : List ℕ) (a v : ℕ) → List ℕ
content stretch given a v = take v (drop a given)
content (zeros n) given a v = replicate n 0

-- an item's bytes: its number, and what follows
abbrev pub bytes_for : Item → (given : List ℕ) (a v : ℕ) → List ℕ
bytes_for i given a v = head_bytes (head_of i) v ++ content (content_of i) given a v

-- the message; or number and place of a refusal. A place is a word's index: in init, and from init_words on in codecs
pub data Writing : Type 0 where
  wrote : (used : ℕ) (message : List ℕ) → Writing
  refused : (number at : ℕ) → Writing

unfoldable pub on_value : Value → ℕ → (ℕ → Writing) → Writing
on_value (value v) at f = f v
on_value (wrong e word) at f = refused e (at + word)

abbrev pub width : Item → ℕ
width i = cond (two i) 2 1

-- where an item's words are: in init, or in codecs behind those used; there they may be missing
unfoldable pub index : Slot → ℕ → ℕ
index (Init i) used = i
index Codecs used = init_words + used

unfoldable pub word_in : Slot → (init codecs : List ℕ) (used word : ℕ) → ℕ
word_in (Init i) init codecs used word = get_or init (i + word) 0
word_in Codecs init codecs used word = get_or codecs (used + word) 0

unfoldable pub there_of : Slot → Item → (words used : ℕ) → Bool
there_of (Init j) i words used = true
there_of Codecs i words used = leb (used + width i) words

unfoldable pub used_by : Slot → Item → ℕ → ℕ
used_by (Init j) i used = used
used_by Codecs i used = used + width i

-- an item by its words a and b, whose index is at: its number judged, its stretch found, and then f with the number and the item's bytes
unfoldable pub emit : Item → (given : List ℕ) (a b at : ℕ) → (ℕ → List ℕ → Writing) → Writing
emit i given a b at f =
    on_value (value_of i a b) at
    (λ v. cond (lies_of (content_of i) (length given) a v) (f v (bytes_for i given a v)) (refused text_bytes (at + 1)))

module _ (init codecs given : List ℕ) where
  unfoldable pub write : Plan → (used : ℕ) (out : List ℕ) → Writing
  write done used out = wrote used out
  write (item i slot k) used out =
      cond (there_of slot i (length codecs) used)
      (emit i given (word_in slot init codecs used 0) (word_in slot init codecs used 1) (index slot used)
      (λ v bytes. write (k v) (used_by slot i used) (out ++ bytes)))
      (refused no_reading (init_words + length codecs))

-- at the end: no word is left, and there is room
unfoldable pub closed : (words room : ℕ) → Writing → Writing
closed words room (wrote used out) =
    cond (ltb used words) (refused no_reading (init_words + used)) (cond (leb (length out) room) (wrote used out) (refused payload_room 0))
closed words room (refused e at) = refused e at

-- the words of init, those lent in codecs, of which word 7 says how many count, the bytes given, and the message's room
unfoldable pub init_write : (init codecs given : List ℕ) (room : ℕ) → Writing
init_write init codecs given room =
    let n = get_or init 7 0 in
    cond (leb n (length codecs)) (closed n room (write init (take n codecs) given plan 0 [])) (refused no_reading 7)
