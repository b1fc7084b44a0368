-- WHAT A START-UP MESSAGE MEANS, and its bytes: 001's syntax tables of 7.2.2 (1154-1176, amended 3310-3374) from top to bottom, with no reader in sight.
use Rattle.std.specs.Prelude.{ℕ, ◌+◌, ◌-◌, ◌*◌, ◌/◌, ◌%◌, ◌≤◌, ◌<◌, ◌≡◌, Bool, true, false, eqb, length, replicate}
use mathlib.Core.List.{List, [], ◌∷◌, ◌++◌, flat_map}
use Rattle.numbers.specs.Limit.{most_vlu8, most_formats, most_schemas, most_unit}
use Rattle.init.specs.Items.{bytes8}

-- A codec has a URI and the numbers of the types that it is for; a schema has a URI, a hint where it is found, and codecs. Texts are bytes.
pub record Codec : Type 0 where
  pub uri : List ℕ
  pub types : List ℕ

pub record Schema : Type 0 where
  pub uri : List ℕ
  pub hint : List ℕ
  pub codecs : List Codec

-- NoAdvancedFeatures; or seven flags, as a number, in so many bytes.
pub data Features : Type 0 where
  plain : Features
  flagged : (length flags : ℕ) → Features

pub record Meaning : Type 0 where
  pub profile : ℕ
  pub unit : ℕ
  pub features : Features
  pub schemas : List Schema
  pub formats : List ℕ
  pub description : List ℕ

-- FragmentReferenceFlag is the fifth flag.
unfoldable pub refers : Features → Bool
refers plain = false
refers (flagged n f) = eqb (f / 4 % 2) 1

-- Behind seven flags stand bits that a reader steps over: the last of the flags' first byte, and the bytes after it.
pub record Over : Type 0 where
  pub first : ℕ
  pub rest : List ℕ

unfoldable pub noughts : Features → Over
noughts plain = record { first = 0; rest = [] }
noughts (flagged n f) = record { first = 0; rest = replicate (n - 1) 0 }

-- Bytes with their count before them, and things with their number before them.
unfoldable pub counted : List ℕ → List ℕ
counted l = bytes8 (length l) ++ l

unfoldable pub numbered : {A : Type 0} → (A → List ℕ) → List A → List ℕ
numbered f l = bytes8 (length l) ++ flat_map f l

unfoldable pub codec_bytes : Codec → List ℕ
codec_bytes c = counted c.uri ++ numbered bytes8 c.types

unfoldable pub schema_bytes : Schema → List ℕ
schema_bytes s = counted s.uri ++ (counted s.hint ++ numbered codec_bytes s.codecs)

-- The unit byte: UnitSizeCode in three bits, NoAdvancedFeatures, four ones; then, without that, the flags' length and the flags.
unfoldable pub feature_bytes : (unit : ℕ) → Features → Over → List ℕ
feature_bytes unit plain o = (32 * unit + 31) ∷ []
feature_bytes unit (flagged n f) o = (32 * unit + 15) ∷ (bytes8 n ++ (2 * f + o.first) ∷ o.rest)

-- The count of the reference formats is a plain byte.
unfoldable pub format_bytes : Bool → List ℕ → List ℕ
format_bytes true l = length l ∷ l
format_bytes false l = []

unfoldable pub spelling : Meaning → Over → List ℕ
spelling m o =
    bytes8 m.profile
    ++ (feature_bytes m.unit m.features o
    ++ (numbered schema_bytes m.schemas ++ (format_bytes (refers m.features) m.formats ++ counted m.description)))

-- The message of a meaning: what is stepped over is zeros.
unfoldable pub spelt : Meaning → List ℕ
spelt m = spelling m (noughts m.features)

-- The words that codecs take: three of each, and one of each type.
unfoldable pub codec_words : List Codec → ℕ
codec_words [] = 0
codec_words (c ∷ cs) = 3 + length c.types + codec_words cs

unfoldable pub schema_words : List Schema → ℕ
schema_words [] = 0
schema_words (s ∷ ss) = codec_words s.codecs + schema_words ss

-- EACH WITHIN ITS FIELD. Every one of a list is so.
abbrev pub Each : {A : Type 0} → (A → Type 0) → List A → Type 0
Each P [] = Unit {0}
Each P (a ∷ l) = P a × Each P l

abbrev pub Byte : ℕ → Type 0
Byte x = x < 256

abbrev pub Small : ℕ → Type 0
Small x = x ≤ most_vlu8

pub record TextIn (l : List ℕ) : Type 0 where
  pub few : Small (length l)
  pub bytes : Each Byte l

pub record CodecIn (c : Codec) : Type 0 where
  pub uri : TextIn c.uri
  pub few : Small (length c.types)
  pub types : Each Small c.types

pub record SchemaIn (s : Schema) : Type 0 where
  pub some : 1 ≤ length s.uri
  pub uri : TextIn s.uri
  pub hint : TextIn s.hint
  pub few : Small (length s.codecs)
  pub codecs : Each CodecIn s.codecs

-- of the flags the second, third and fourth are not set
abbrev pub FeaturesIn : Features → Type 0
FeaturesIn plain = Unit {0}
FeaturesIn (flagged n f) = (1 ≤ n) × (n ≤ most_vlu8) × (f ≤ 127) × (f / 8 % 8 ≡ 0)

abbrev pub FormatsIn : Bool → List ℕ → Type 0
FormatsIn true l = (length l ≤ most_formats) × Each Byte l
FormatsIn false l = l ≡ []

pub record Within (m : Meaning) : Type 0 where
  pub profile : Small m.profile
  pub unit : m.unit ≤ most_unit
  pub features : FeaturesIn m.features
  pub some : 1 ≤ length m.schemas
  pub few : length m.schemas ≤ most_schemas
  pub schemas : Each SchemaIn m.schemas
  pub formats : FormatsIn (refers m.features) m.formats
  pub description : TextIn m.description

-- what is stepped over: one bit and whole bytes, as many as the flags' length leaves
abbrev pub OverIn : Features → Over → Type 0
OverIn plain o = (o.first ≡ 0) × (o.rest ≡ [])
OverIn (flagged n f) o = (o.first ≤ 1) × (1 + length o.rest ≡ n) × Each Byte o.rest
