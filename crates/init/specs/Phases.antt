-- Which item is next, as a plan.
use Rattle.std.specs.Prelude.{ℕ, ◌+◌, ◌*◌, ◌/◌, ◌%◌, Bool, true, false, eqb}
use Rattle.init.specs.declared.Item.{Item}
use Rattle.init.specs.declared.Item.TheVariants as item
use Rattle.init.specs.declared.Slot.{Slot}
use Rattle.init.specs.declared.Slot.TheVariants as slot
use Rattle.init.specs.declared.Left.{Left}
use Rattle.init.specs.declared.Phase.{Phase}
use Rattle.init.specs.declared.Phase.TheVariants.{Profile, UnitByte, NoFlags, Length, Flags, Schemas, Uri, Hint, Codecs, Codec, Types, OneType, Formats, NoFormats, Description, End}
use Rattle.init.specs.Plan.{Plan, types, codecs, schemas, formats, description, listed, flags, features, unit}
use Rattle.init.specs.Plan.{Plan as plans}

-- the item, its slot, and what its number lets come
unfoldable pub item_of : Phase → Item
item_of Profile = item.Number
item_of UnitByte = item.UnitByte
item_of NoFlags = item.NoFlags
item_of Length = item.Length
item_of (Flags n) = item.Flags n
item_of (Schemas f) = item.Schemas
item_of (Uri l) = item.Uri
item_of (Hint l) = item.Text
item_of (Codecs l) = item.Number
item_of (Codec l) = item.Text
item_of (Types l) = item.Number
item_of (OneType l) = item.Number
item_of Formats = item.Formats
item_of NoFormats = item.NoFormats
item_of Description = item.Text
item_of End = item.NoFormats

unfoldable pub slot_of : Phase → Slot
slot_of Profile = slot.Init 1
slot_of UnitByte = slot.Init 2
slot_of NoFlags = slot.Init 4
slot_of Length = slot.Init 3
slot_of (Flags n) = slot.Init 4
slot_of (Schemas f) = slot.Init 6
slot_of (Uri l) = slot.Init l.slot
slot_of (Hint l) = slot.Init (l.slot + 2)
slot_of (Codecs l) = slot.Init (l.slot + 4)
slot_of (Codec l) = slot.Codecs
slot_of (Types l) = slot.Codecs
slot_of (OneType l) = slot.Codecs
slot_of Formats = slot.Init 8
slot_of NoFormats = slot.Init 9
slot_of Description = slot.Init 10
slot_of End = slot.Codecs

-- the types left, the codecs left, the schemas left, and what follows the schemas
unfoldable pub later : (slot schemas : ℕ) → Bool → Plan
later at n f = schemas n at (formats f)

unfoldable pub rest : Left → Plan
rest l = types l.types (codecs l.codecs (later l.slot l.schemas l.formats))

unfoldable pub rest_of : Phase → ℕ → Plan
rest_of Profile v = unit
rest_of UnitByte v = features (eqb (v / 16 % 2) 1)
rest_of NoFlags v = listed false
rest_of Length v = flags v
rest_of (Flags n) v = listed (eqb (v / 8 % 2) 1)
rest_of (Schemas f) v = schemas v 12 (formats f)
rest_of (Uri l) v =
    plans.item item.Text (slot.Init (l.slot + 2))
    (λ h. plans.item item.Number (slot.Init (l.slot + 4)) (λ c. codecs c (later (l.slot + 5) l.schemas l.formats)))
rest_of (Hint l) v = plans.item item.Number (slot.Init (l.slot + 4)) (λ c. codecs c (later (l.slot + 5) l.schemas l.formats))
rest_of (Codecs l) v = codecs v (later (l.slot + 5) l.schemas l.formats)
rest_of (Codec l) v = plans.item item.Number slot.Codecs (λ t. types t (codecs l.codecs (later l.slot l.schemas l.formats)))
rest_of (Types l) v = types v (codecs l.codecs (later l.slot l.schemas l.formats))
rest_of (OneType l) v = rest l
rest_of Formats v = description
rest_of NoFormats v = description
rest_of Description v = plans.done
rest_of End v = plans.done

unfoldable pub ends : Phase → Bool
ends Profile = false
ends UnitByte = false
ends NoFlags = false
ends Length = false
ends (Flags n) = false
ends (Schemas f) = false
ends (Uri l) = false
ends (Hint l) = false
ends (Codecs l) = false
ends (Codec l) = false
ends (Types l) = false
ends (OneType l) = false
ends Formats = false
ends NoFormats = false
ends Description = false
ends End = true

unfoldable pub goes : Bool → Item → Slot → (ℕ → Plan) → Plan
goes true i j k = plans.done
goes false i j k = plans.item i j k

unfoldable pub plan_of : Phase → Plan
plan_of ph = goes (ends ph) (item_of ph) (slot_of ph) (rest_of ph)

-- the word of init past the schemas left, and past those that a number lets come
unfoldable pub reach : Phase → ℕ
reach Profile = 0
reach UnitByte = 0
reach NoFlags = 0
reach Length = 0
reach (Flags n) = 0
reach (Schemas f) = 0
reach (Uri l) = l.slot + 5 * (l.schemas + 1)
reach (Hint l) = l.slot + 5 * (l.schemas + 1)
reach (Codecs l) = l.slot + 5 * (l.schemas + 1)
reach (Codec l) = l.slot + 5 * l.schemas
reach (Types l) = l.slot + 5 * l.schemas
reach (OneType l) = l.slot + 5 * l.schemas
reach Formats = 0
reach NoFormats = 0
reach Description = 0
reach End = 0

unfoldable pub grown : Phase → ℕ → ℕ
grown Profile v = 0
grown UnitByte v = 0
grown NoFlags v = 0
grown Length v = 0
grown (Flags n) v = 0
grown (Schemas f) v = 12 + 5 * v
grown (Uri l) v = reach (Uri l)
grown (Hint l) v = reach (Hint l)
grown (Codecs l) v = reach (Codecs l)
grown (Codec l) v = reach (Codec l)
grown (Types l) v = reach (Types l)
grown (OneType l) v = reach (OneType l)
grown Formats v = 0
grown NoFormats v = 0
grown Description v = 0
grown End v = 0

-- what falls from item to item, but for those in codecs
unfoldable pub rank : Phase → ℕ
rank Profile = 30
rank UnitByte = 29
rank NoFlags = 28
rank Length = 28
rank (Flags n) = 27
rank (Schemas f) = 26
rank (Uri l) = 3 * l.schemas + 5
rank (Hint l) = 3 * l.schemas + 4
rank (Codecs l) = 3 * l.schemas + 3
rank (Codec l) = 3 * l.schemas + 2
rank (Types l) = 3 * l.schemas + 2
rank (OneType l) = 3 * l.schemas + 2
rank Formats = 2
rank NoFormats = 2
rank Description = 1
rank End = 0

unfoldable pub spare : Slot → ℕ
spare (slot.Init i) = 0
spare slot.Codecs = 1
