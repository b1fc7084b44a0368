-- WHAT A RIGHT TABLE GIVES, whether type codes are sent or not: of each particle row and each type, that whatever it names is in the table, that its
-- codes take few bits, and that a type stands once among those that an element can be. Nothing is said of words behind the rows.
use Prim.Native.Nat.{ℕ, zero, suc, ◌+◌, ◌<◌, ◌≤◌}
use mathlib.Core.Path.{◌≡◌, refl}
use mathlib.Core.Bool.{Bool, true, false}
use mathlib.Core.List.{List, [], ◌∷◌}
use native.Mathlib.Omega.{arith}
use lib.ListN.{length}
use Rattle.numbers.specs.Limit.{most_derivations, most_substitutes, most_children, most_values, unbounded}
use Rattle.numbers.specs.Simple.{enumeration}
use Rattle.table.specs.First.Verdict.{right}
use Rattle.table.specs.Rows.{Row, Attribute, Table, attribute_type, first_of, table_of}
use Rattle.table.specs.Rows as rows
use Rattle.table.specs.Valid.{verdict, among, once}
use Rattle.table.specs.Words.{particles_in}
use Rattle.table.specs.Keeps.{Each, SimpleOk, AttributeOk, ContentOk, RowOk, TypesOk}
use Rattle.table.proofs.Laws.{row_ok, content-ok, attributes-ok}
use Rattle.table.proofs.CastLaws.{derived-ok, derived-once, substitutes-ok}
use Rattle.model.specs.Model.{Types, only, chosen, default_type, table_in, types_of}
use Rattle.theorems.specs.Content.{Chosen}
use Rattle.theorems.proofs.Choices.{among-chosen}

-- what an element's type can be, in a table of so many types
pub record TypesFine (types : ℕ) (y : Types) : Type 0 where
  pub own : y.own < types
  pub substitutes : TypesOk types most_substitutes y.substitutes
  pub derived : (t : ℕ) → t < types → TypesOk types most_derivations (y.derived t)
  pub apart : (t : ℕ) → t < types → once (t ∷ y.derived t) ≡ true

abbrev pub KindFine : ℕ → ℕ → Type 0
KindFine kind b = kind ≡ enumeration → b ≤ most_values

-- in a table of P particle rows
abbrev pub RowFine : Table → ℕ → Row → Type 0
RowFine T P (Row.element name type row) = TypesFine T.types (types_of T type row)
RowFine T P (Row.sequence first count) = first + count ≤ P
RowFine T P (Row.choice first count) = (first + count ≤ P) × (count ≤ most_children)
RowFine T P (Row.occurs child least most) = (child < P) × (most ≤ unbounded)

abbrev pub ContentFine : ℕ → rows.Content → Type 0
ContentFine P rows.Content.empty = Unit {0}
ContentFine P (rows.Content.simple kind b c) = KindFine kind b
ContentFine P (rows.Content.particles i) = i < P

abbrev pub AttributeFine : Attribute → Type 0
AttributeFine a = KindFine a.simple a.b

abbrev pub AllFine : List Attribute → Type 0
AllFine [] = Unit {0}
AllFine (a ∷ l) = AttributeFine a × AllFine l

pub record Bounded (T : Table) (P : ℕ) : Type 0 where
  pub rows : (p : ℕ) → p < P → RowFine T P (T.row p)
  pub contents : (t : ℕ) → t < T.types → ContentFine P (T.content t)
  pub attributes : (t : ℕ) → t < T.types → AllFine (T.attributes t)

-- a type that is chosen is one of the table's
chosen-known : (types most t : ℕ) (l : List ℕ) → t < types → TypesOk types most l → (j : ℕ) → j ≤ length l → chosen t l j < types
unfolding chosen
chosen-known types most t l h ok zero g = h
chosen-known types most t l h ok (suc j) g = ok.known j g

pub default-known : {types : ℕ} {y : Types} → TypesFine types y → (k : ℕ) → k ≤ length y.substitutes → default_type y k < types
unfolding default_type
default-known {types} {y} h k g = chosen-known types most_substitutes y.own y.substitutes h.own h.substitutes k g

pub effective-known : {types : ℕ} {y : Types} {t k : ℕ} → TypesFine types y → Chosen y t k → t < types
effective-known {types} {y} {t} {k} h c =
    let own = default_type y k in
    let known = default-known h k c.substitute in
    let found = among-chosen t own (y.derived own) c.type in
    rw found.2 at (chosen-known types most_derivations own (y.derived own) known (h.derived own known) found.0 found.1)

-- nothing to choose from
none-ok : (types most : ℕ) → TypesOk types most []
none-ok types most = record { known = λ k h. absurd (omega arith); few = omega arith }

none-once : (t : ℕ) → once (t ∷ []) ≡ true
unfolding once among
none-once t = refl

pub only-fine : (types type : ℕ) → type < types → TypesFine types (only type)
only-fine types type h = record {
  own = h;
  substitutes = none-ok types most_substitutes;
  derived = λ t g. none-ok types most_derivations;
  apart = λ t g. none-once t;
}

kind-fine : {kind b c : ℕ} → SimpleOk kind b c → KindFine kind b
kind-fine h e = (h.values e).1

content-fine : (P : ℕ) (c : rows.Content) → ContentOk P c → ContentFine P c
content-fine P rows.Content.empty h = tt
content-fine P (rows.Content.simple kind b c) h = kind-fine h
content-fine P (rows.Content.particles i) h = h

all-fine : (T : Table) (types : ℕ → ℕ) (i : ℕ) (l : List Attribute) → Each (λ a. AttributeOk T (types a)) i l → AllFine l
all-fine T types i [] h = tt
all-fine T types i (a ∷ l) h = (kind-fine h.0.value, all-fine T types (i + 1) l h.1)

module _ (l : List ℕ) (r : verdict l ≡ right) where
  abbrev P : ℕ
  P = particles_in l

  abbrev T : Bool → Table
  T casting = table_in casting (table_of l)

  types-fine : (casting : Bool) (type row : ℕ) → type < (table_of l).types → row < P → TypesFine (table_of l).types (types_of (T casting) type row)
  unfolding table_of
  types-fine true type row h g = record { own = h; substitutes = substitutes-ok l r row g; derived = derived-ok l r; apart = derived-once l r }
  types-fine false type row h g = record {
    own = h;
    substitutes = substitutes-ok l r row g;
    derived = λ t k. none-ok (table_of l).types most_derivations;
    apart = λ t k. none-once t;
  }

  row_fine : (casting : Bool) (p : ℕ) (w : Row) → RowOk (table_of l).types P p w → RowFine (T casting) P w
  row_fine casting p (Row.element name type row) h = types-fine casting type row h.type_known h.row_known
  row_fine casting p (Row.sequence first count) h = h.within
  row_fine casting p (Row.choice first count) h = (h.within, h.few)
  row_fine casting p (Row.occurs child least most) h = (h.within, h.most_small)

  pub right-bounded : (casting : Bool) → Bounded (T casting) P
  unfolding table_of
  right-bounded casting = record {
    rows = λ p h. row_fine casting p ((table_of l).row p) (row_ok l r p h);
    contents = λ t h. content-fine P ((table_of l).content t) (content-ok l r t h);
    attributes = λ t h. all-fine (table_of l) (attribute_type l) (first_of l t) ((table_of l).attributes t) (attributes-ok l r t h);
  }
