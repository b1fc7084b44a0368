-- VALID BY THE TABLE ALONE: a list of events with its texts, for a table, a root and a mode, where table and root are right, it has whole events and
-- at most most_events of them, none is a Blank, and it follows the table's content models. `ValidModel.valid-model` says that these are the valid lists.
use Rattle.std.specs.Prelude.{ℕ, ◌-◌, ◌<◌, ◌≡◌, true, List, [], ◌∷◌}
use Rattle.numbers.specs.Kind as kinds
use Rattle.numbers.specs.Limit.{most_open}
use Rattle.table.specs.Rows.{table_of, held_of}
use Rattle.model.specs.Model.{only, table_in}
use Rattle.model.specs.Items.{Mode}
use Rattle.model.specs.Write.{Bare}
use Rattle.model.specs.Entries.{Entered, Shaped, list_of}
use Rattle.theorems.specs.Content.{one, Model}

abbrev pub NoBlanks : List Bare → Type 0
NoBlanks [] = Unit
NoBlanks (e ∷ L) = (e.kind ≡ kinds.blank → ⊥) × NoBlanks L

pub record Follows (l : List ℕ) (party name type : ℕ) (mode : Mode) (L X : List ℕ) : Type 0 where
  -- 1, 2; 22, as type codes are sent only for a table with derivations; 18 for the list's shape; 19
  pub enters : Entered l party name type
  pub casts : mode.casting ≡ true → 0 < (table_of l).derivations
  pub shape : Shaped L
  pub no-blank : NoBlanks (list_of L)
  -- the root, of its own type and itself one of at most 64 open rows
  pub model : Model (table_in mode.casting (table_of l)) mode.lengths (held_of l party) (most_open - 1) (one name (only type)) (list_of L) X
