-- THE PLAN of a start-up message: which items come, each with where its words stand. 001's syntax tables, 7.2.2 (1154-1176, 3310-3374).
use Rattle.std.specs.Prelude.{ℕ, zero, suc, ◌+◌, ◌/◌, ◌%◌, Bool, true, false, eqb}
use Rattle.init.specs.declared.Item.{Item}
use Rattle.init.specs.declared.Item.TheVariants.{Number, UnitByte, Length, Flags, Schemas, Uri, Text, Formats, NoFlags, NoFormats}
use Rattle.init.specs.declared.Slot.{Slot}
use Rattle.init.specs.declared.Slot.TheVariants.{Init, Codecs}

-- nothing more, or an item, and what its number lets come
pub data Plan : Type 0 where
  done : Plan
  item : Item → Slot → (ℕ → Plan) → Plan

-- so many types, codecs, schemas, and then the plan k; a schema has five words of init
unfoldable pub types : ℕ → Plan → Plan
types zero k = k
types (suc n) k = item Number Codecs (λ v. types n k)

unfoldable pub codecs : ℕ → Plan → Plan
codecs zero k = k
codecs (suc n) k = item Text Codecs (λ u. item Number Codecs (λ t. types t (codecs n k)))

unfoldable pub schemas : ℕ → ℕ → Plan → Plan
schemas zero slot k = k
schemas (suc n) slot k =
    item Uri (Init slot) (λ u. item Text (Init (slot + 2)) (λ h. item Number (Init (slot + 4)) (λ c. codecs c (schemas n (slot + 5) k))))

abbrev pub description : Plan
description = item Text (Init 10) (λ d. done)

-- with FragmentReferenceFlag, or without
unfoldable pub formats : Bool → Plan
formats true = item Formats (Init 8) (λ f. description)
formats false = item NoFormats (Init 9) (λ f. description)

abbrev pub listed : Bool → Plan
listed f = item Schemas (Init 6) (λ n. schemas n 12 (formats f))

-- the flags, of whose first byte FragmentReferenceFlag is bit 8
abbrev pub flags : ℕ → Plan
flags n = item (Flags n) (Init 4) (λ b. listed (eqb (b / 8 % 2) 1))

-- with NoAdvancedFeatures, or without
unfoldable pub features : Bool → Plan
features true = item NoFlags (Init 4) (λ u. listed false)
features false = item Length (Init 3) (λ n. flags n)

-- of the unit byte NoAdvancedFeatures is bit 16
abbrev pub unit : Plan
unit = item UnitByte (Init 2) (λ b. features (eqb (b / 16 % 2) 1))

unfoldable pub plan : Plan
plan = item Number (Init 1) (λ p. unit)
