-- A table decoded into rows, so that meanings go by constructors and never by words. Total on every list of words.
use Rattle.std.specs.Prelude.{ℕ, zero, suc, ◌+◌, ◌/◌, ◌%◌, ◌^◌, List, [], ◌∷◌, Bool, eqb}
use Rattle.numbers.specs.Content.{of_content}
use Rattle.numbers.specs.Particle.{of_particle}
use Rattle.table.specs.Words.{type_at, attribute_at, particle_at, derived_at, substitute_at, type_pair_at, row_pair_at, word_at, types_in, attributes_in, rows_end, derivations_in, substitutes_in}

-- an element row also says its own number, by which its substitutes are found
pub data Row : Type 0 where
  element : (name type row : ℕ) → Row
  sequence : (first count : ℕ) → Row
  choice : (first count : ℕ) → Row
  occurs : (child least most : ℕ) → Row

pub data Content : Type 0 where
  empty : Content
  simple : (kind b c : ℕ) → Content
  particles : (row : ℕ) → Content

-- an attribute, with the simple kind and parameters of its type
pub record Attribute : Type 0 where
  pub name : ℕ
  pub must : Bool
  pub simple : ℕ
  pub b : ℕ
  pub c : ℕ

-- what a table says, without its held marks
pub record Table : Type 0 where
  pub types : ℕ
  pub attributes : ℕ → List Attribute
  pub content : ℕ → Content
  pub row : ℕ → Row
  -- the types of an element row's substitutes, and a type's derived types, in code order; how many derived entries there are in all
  pub substitutes : ℕ → List ℕ
  pub derived : ℕ → List ℕ
  pub derivations : ℕ

unfoldable pub content_from : (content a b c : ℕ) → Content
content_from content a b c = of_content record { empty = empty; simple = simple a b c; particles = particles a } content

unfoldable pub row_from : (p kind x y z : ℕ) → Row
row_from p kind x y z =
    of_particle record { element = element x y p; sequence = sequence x y; choice = choice x y; occurs = occurs x y z } kind

module _ (l : List ℕ) where
  abbrev w : ℕ → ℕ
  w i = word_at l i

  unfoldable pub content_of : (t : ℕ) → Content
  content_of t = let i = type_at t in content_from (w (i + 1)) (w (i + 4)) (w (i + 5)) (w (i + 6))

  -- the particle row p behind so many type and attribute rows
  unfoldable pub row_at : (T A p : ℕ) → Row
  row_at T A p = let i = particle_at T A p in row_from p (w i) (w (i + 1)) (w (i + 2)) (w (i + 3))

  unfoldable pub row_of : (p : ℕ) → Row
  row_of p = row_at (types_in l) (attributes_in l) p

  -- the type that an attribute row names
  abbrev pub attribute_type : (a : ℕ) → ℕ
  attribute_type a = w (attribute_at (types_in l) a + 2)

  unfoldable pub attribute_of : (a : ℕ) → Attribute
  attribute_of a =
      let i = attribute_at (types_in l) a in
      let j = type_at (attribute_type a) in
      record { name = w i; must = eqb (w (i + 1)) 1; simple = w (j + 4); b = w (j + 5); c = w (j + 6) }

  -- n attribute rows from row i on
  unfoldable pub attributes_from : (n i : ℕ) → List Attribute
  attributes_from zero i = []
  attributes_from (suc n) i = attribute_of i ∷ attributes_from n (i + 1)

  -- the first attribute row of a type, and how many it has
  unfoldable pub first_of : (t : ℕ) → ℕ
  first_of t = w (type_at t + 2)

  unfoldable pub count_of : (t : ℕ) → ℕ
  count_of t = w (type_at t + 3)

  unfoldable pub attributes_of : (t : ℕ) → List Attribute
  attributes_of t = attributes_from (count_of t) (first_of t)

  -- the types of n substitutes from i on, and those of a row; n derived entries from i on, and those of a type
  unfoldable pub substitutes_from : (n i : ℕ) → List ℕ
  substitutes_from zero i = []
  substitutes_from (suc n) i = w (substitute_at (rows_end l) (derivations_in l) i + 1) ∷ substitutes_from n (i + 1)

  unfoldable pub substitutes_of : (p : ℕ) → List ℕ
  substitutes_of p = let j = row_pair_at (rows_end l) (derivations_in l) (substitutes_in l) (types_in l) p in substitutes_from (w (j + 1)) (w j)

  unfoldable pub derived_from : (n i : ℕ) → List ℕ
  derived_from zero i = []
  derived_from (suc n) i = w (derived_at (rows_end l) i) ∷ derived_from n (i + 1)

  unfoldable pub derived_of : (t : ℕ) → List ℕ
  derived_of t = let j = type_pair_at (rows_end l) (derivations_in l) (substitutes_in l) t in derived_from (w (j + 1)) (w j)

  unfoldable pub table_of : Table
  table_of = record { types = types_in l; attributes = λ t. attributes_of t; content = λ t. content_of t; row = λ p. row_of p; substitutes = λ p. substitutes_of p; derived = λ t. derived_of t; derivations = derivations_in l }

  -- bit p of the type's held word is party p's mark
  unfoldable pub held_of : (p t : ℕ) → Bool
  held_of p t = eqb (w (type_at t) / 2 ^ p % 2) 1
