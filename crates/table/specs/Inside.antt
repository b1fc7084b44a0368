-- Where a row lies inside a table's words.
use Rattle.std.specs.Prelude.{ℕ, ◌+◌, ◌<◌, List, length}
use Rattle.table.specs.Words.{type_at, attribute_at, particle_at, types_in, attributes_in}
use Rattle.table.specs.Rows.{attribute_type}

module _ (l : List ℕ) where
  abbrev pub TypeInside : ℕ → Type 0
  TypeInside t = type_at t + 6 < length l

  -- an attribute's type row too
  abbrev pub AttributeInside : ℕ → Type 0
  AttributeInside a = (attribute_at (types_in l) a + 2 < length l) × TypeInside (attribute_type l a)

  abbrev pub ParticleInside : ℕ → Type 0
  ParticleInside p = particle_at (types_in l) (attributes_in l) p + 3 < length l
