-- The page's accepted messages, as their meanings are spelt: m1, the first form, two schemas, and bits stepped over.
use Rattle.std.specs.Prelude.{ℕ, ◌≡◌, refl}
use mathlib.Core.List.{List, [], ◌∷◌, flat_map}
use Rattle.init.specs.Items.{bytes8}
use Rattle.init.specs.Meaning.{Schema, Features, Meaning, refers, noughts, counted, numbered, codec_bytes, schema_bytes, feature_bytes, format_bytes, spelling, spelt}
use Rattle.init.specs.Meaning.Features.{plain, flagged}

m1-spelt : spelt (record {
  profile = 0;
  unit = 0;
  features = flagged 1 4;
  schemas = record { uri = 97 ∷ 58 ∷ 98 ∷ []; hint = 104 ∷ []; codecs = record { uri = 99 ∷ 100 ∷ []; types = 5 ∷ 128 ∷ [] } ∷ [] } ∷ [];
  formats = 1 ∷ 225 ∷ [];
  description = 170 ∷ 187 ∷ 204 ∷ [];
}) ≡ 0 ∷ 15 ∷ 1 ∷ 8 ∷ 1 ∷ 3 ∷ 97 ∷ 58 ∷ 98 ∷ 1 ∷ 104 ∷ 1 ∷ 2 ∷ 99 ∷ 100 ∷ 2 ∷ 5 ∷ 129 ∷ 0 ∷ 2 ∷ 1 ∷ 225 ∷ 3 ∷ 170 ∷ 187 ∷ 204 ∷ []
unfolding spelt spelling noughts refers counted numbered codec_bytes schema_bytes feature_bytes format_bytes bytes8 flat_map
m1-spelt = refl

-- a schema of a URI alone, in a message with nothing more
abbrev bare : (profile unit : ℕ) → Features → List Schema → Meaning
bare profile unit features schemas = record { profile = profile; unit = unit; features = features; schemas = schemas; formats = []; description = [] }

abbrev only : List ℕ → Schema
only uri = record { uri = uri; hint = []; codecs = [] }

first-form-spelt : spelt (bare 0 0 plain (only (117 ∷ []) ∷ [])) ≡ 0 ∷ 31 ∷ 1 ∷ 1 ∷ 117 ∷ 0 ∷ 0 ∷ 0 ∷ []
unfolding spelt spelling noughts refers counted numbered codec_bytes schema_bytes feature_bytes format_bytes bytes8 flat_map
first-form-spelt = refl

two-schemas-spelt : spelt (bare 128 2 plain (only (117 ∷ []) ∷ only (118 ∷ 119 ∷ []) ∷ [])) ≡ 129 ∷ 0 ∷ 95 ∷ 2 ∷ 1 ∷ 117 ∷ 0 ∷ 0 ∷ 2 ∷ 118 ∷ 119 ∷ 0 ∷ 0 ∷ 0 ∷ []
unfolding spelt spelling noughts refers counted numbered codec_bytes schema_bytes feature_bytes format_bytes bytes8 flat_map
two-schemas-spelt = refl

stepped-spelling : spelling (bare 0 0 (flagged 2 4) (only (117 ∷ []) ∷ [])) (record { first = 1; rest = 255 ∷ [] }) ≡ 0 ∷ 15 ∷ 2 ∷ 9 ∷ 255 ∷ 1 ∷ 1 ∷ 117 ∷ 0 ∷ 0 ∷ 0 ∷ 0 ∷ []
unfolding spelling refers counted numbered codec_bytes schema_bytes feature_bytes format_bytes bytes8 flat_map
stepped-spelling = refl
