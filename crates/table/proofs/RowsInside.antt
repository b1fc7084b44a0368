-- The rows of a right table lie inside its words.
use Prim.Native.Nat.{ℕ, ◌+◌, ◌<◌}
use mathlib.Core.Path.{◌≡◌}
use mathlib.Core.List.{List}
use native.Mathlib.Omega.{arith}
use lib.ListN.{length}
use Rattle.table.specs.First.Verdict.{right}
use Rattle.table.specs.Inside.{TypeInside, AttributeInside, ParticleInside}
use Rattle.table.specs.Rows.{attribute_type, table_of}
use Rattle.table.specs.Runs.{RunAt}
use Rattle.table.proofs.OneRow.{read}
use Rattle.table.specs.Valid.{verdict}
use Rattle.table.specs.Words.{type_at, attribute_at, word_at, types_in, attributes_in, particles_in}
use Rattle.table.proofs.Laws.{rows-within, sized, attribute-ok}

-- an attribute's type row, as the code finds it
pub type-found : (l : List ℕ) (T i j m : ℕ) (w : List ℕ) → T ≡ types_in l → j ≡ attribute_at T i → RunAt l j 3 w → m ≡ type_at (word_at w 2) → AttributeInside l i → m + 6 < length l
type-found l T i j m w e at words at' h = rw (at', read words 2 (j + 2) (omega arith) (omega arith), at, e) h.1

module _ (l : List ℕ) (valid : verdict l ≡ right) where
  pub type-inside : (t : ℕ) → t < types_in l → TypeInside l t
  type-inside t h = omega (arith, rows-within l (sized l valid))

  attribute-type-known : (a : ℕ) → a < attributes_in l → attribute_type l a < types_in l
  unfolding table_of
  attribute-type-known a h = (attribute-ok l valid a h).type_known

  pub attribute-inside : (a : ℕ) → a < attributes_in l → AttributeInside l a
  attribute-inside a h = (omega (arith, rows-within l (sized l valid)), type-inside (attribute_type l a) (attribute-type-known a h))

  pub particle-inside : (p : ℕ) → p < particles_in l → ParticleInside l p
  particle-inside p h = omega (arith, rows-within l (sized l valid))
