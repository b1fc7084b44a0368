-- WHAT WORDS SAY: the words of `init` and of `codecs`, with the bytes that their stretches lie in, say a meaning. The page's two tables of words.
use Rattle.std.specs.Prelude.{ℕ, ◌+◌, ◌-◌, ◌*◌, ◌≤◌, ◌≡◌, Bool, true, false, List, [], ◌∷◌, ◌++◌, length, get_or, take, drop}
use Rattle.init.specs.Meaning.{Codec, Schema, Features, Meaning, refers}
use Rattle.init.specs.Meaning.Features.{plain, flagged}

-- A stretch, by its place and its count, is these bytes of those given.
pub record Stretch (given : List ℕ) (place count : ℕ) (bytes : List ℕ) : Type 0 where
  pub counts : count ≡ length bytes
  pub lies : place + count ≤ length given
  pub stands : take count (drop place given) ≡ bytes

-- Of a codec: the URI's stretch, the number of types, the types; then the words of those after it.
pub record CodecSays (given : List ℕ) (c : Codec) (rest words : List ℕ) : Type 0 where
  pub place : ℕ
  pub uri : Stretch given place (length c.uri) c.uri
  pub are : words ≡ place ∷ length c.uri ∷ length c.types ∷ (c.types ++ rest)

abbrev pub CodecsSay : (given : List ℕ) → List Codec → (words : List ℕ) → Type 0
CodecsSay given [] words = words ≡ []
CodecsSay given (c ∷ cs) words = (rest : List ℕ) × CodecSays given c rest words × CodecsSay given cs rest

-- Of a schema: five words of init, from a slot on, and its own words of codecs before those of the schemas after it.
pub record SchemaSays (init given : List ℕ) (slot : ℕ) (s : Schema) (own rest words : List ℕ) : Type 0 where
  pub uri : Stretch given (get_or init slot 0) (get_or init (slot + 1) 0) s.uri
  pub hint : Stretch given (get_or init (slot + 2) 0) (get_or init (slot + 3) 0) s.hint
  pub count : get_or init (slot + 4) 0 ≡ length s.codecs
  pub codecs : CodecsSay given s.codecs own
  pub are : words ≡ own ++ rest

abbrev pub SchemasSay : (init given : List ℕ) (slot : ℕ) → List Schema → (words : List ℕ) → Type 0
SchemasSay init given slot [] words = words ≡ []
SchemasSay init given slot (s ∷ ss) words =
    (own rest : List ℕ) × SchemaSays init given slot s own rest words × SchemasSay init given (slot + 5) ss rest

-- Bits stepped over, the flags, and the first bit stepped over.
abbrev pub FeaturesSay : (first : ℕ) (init : List ℕ) → Features → Type 0
FeaturesSay first init plain = (get_or init 3 0 ≡ 0) × (get_or init 4 0 ≡ 0) × (get_or init 5 0 ≡ 0)
FeaturesSay first init (flagged n f) = (get_or init 3 0 ≡ 8 * n - 7) × (get_or init 4 0 ≡ f) × (get_or init 5 0 ≡ first)

abbrev pub FormatsSay : (init given : List ℕ) → Bool → List ℕ → Type 0
FormatsSay init given true l = Stretch given (get_or init 8 0) (get_or init 9 0) l
FormatsSay init given false l = get_or init 9 0 ≡ 0

pub record Says (first : ℕ) (init codecs given : List ℕ) (m : Meaning) : Type 0 where
  pub profile : get_or init 1 0 ≡ m.profile
  pub unit : get_or init 2 0 ≡ m.unit
  pub features : FeaturesSay first init m.features
  pub count : get_or init 6 0 ≡ length m.schemas
  pub used : get_or init 7 0 ≤ length codecs
  pub schemas : SchemasSay init given 12 m.schemas (take (get_or init 7 0) codecs)
  pub formats : FormatsSay init given (refers m.features) m.formats
  pub description : Stretch given (get_or init 10 0) (get_or init 11 0) m.description
