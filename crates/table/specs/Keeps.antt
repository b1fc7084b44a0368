-- What a right table keeps to, said of its rows: the statements that the laws prove.
use Rattle.std.specs.Prelude.{ℕ, ◌+◌, ◌≤◌, ◌<◌, ◌≡◌, List, [], ◌∷◌, length, get_or}
use Rattle.signed.specs.Words.{rank}
use Rattle.numbers.specs.Simple.{ranged, enumeration, date}
use Rattle.numbers.specs.Limit.{most_types, most_attributes, most_particles, most_children, most_values, most_name, most_times, unbounded}
use Rattle.table.specs.Rows.{Row, Content, Attribute, Table}
use Rattle.table.specs.Rows.Row.{element, sequence, choice, occurs}
use Rattle.table.specs.Rows.Content.{empty, simple, particles}

-- What a right row keeps to, in a table of T types and P particle rows.
pub record ElementOk (T P name type row : ℕ) : Type 0 where
  pub name-small : name ≤ most_name
  pub type_known : type < T
  pub row_known : row < P

-- consecutive rows over the parent's row p, so many at least
pub record GroupOk (P p least start count : ℕ) : Type 0 where
  pub over : p < start
  pub within : start + count ≤ P
  pub enough : least ≤ count
  pub few : count ≤ most_children

pub record OccursOk (P p child least most : ℕ) : Type 0 where
  pub over : p < child
  pub within : child < P
  pub least_small : least ≤ most_times
  pub some : 1 ≤ most
  pub most_small : most ≤ unbounded
  pub ordered : least ≤ most

abbrev pub RowOk : (T P p : ℕ) → Row → Type 0
RowOk T P p (element name type row) = ElementOk T P name type row
RowOk T P p (sequence start count) = GroupOk P p 1 start count
RowOk T P p (choice start count) = GroupOk P p 2 start count
RowOk T P p (occurs child least most) = OccursOk P p child least most

pub record SimpleOk (kind b c : ℕ) : Type 0 where
  pub kind_known : kind ≤ date
  pub range : kind ≡ ranged → rank b ≤ rank c
  pub values : kind ≡ enumeration → (1 ≤ b) × (b ≤ most_values)

abbrev pub ContentOk : (P : ℕ) → Content → Type 0
ContentOk P empty = Unit {0}
ContentOk P (simple kind b c) = SimpleOk kind b c
ContentOk P (particles row) = row < P

-- an attribute whose row names a type of the table: one with simple content, which the attribute's value has, and with no attributes
pub record AttributeOk (T : Table) (type : ℕ) (a : Attribute) : Type 0 where
  pub name-small : a.name ≤ most_name
  pub type_known : type < T.types
  pub type_simple : T.content type ≡ simple a.simple a.b a.c
  pub type_bare : T.attributes type ≡ []
  pub value : SimpleOk a.simple a.b a.c

-- each attribute, with its row's number, from row i on
abbrev pub Each : (ℕ → Attribute → Type 0) → ℕ → List Attribute → Type 0
Each Q i [] = Unit {0}
Each Q i (a ∷ l) = Q i a × Each Q (i + 1) l

pub record CountsOk (T A P : ℕ) : Type 0 where
  pub types_some : 1 ≤ T
  pub types_few : T ≤ most_types
  pub attributes_few : A ≤ most_attributes
  pub particles_few : P ≤ most_particles

-- types to choose from: each is one of the table's, and there are few of them
pub record TypesOk (T most : ℕ) (types : List ℕ) : Type 0 where
  pub known : (k : ℕ) → k < length types → get_or types k 0 < T
  pub few : length types ≤ most
