-- The mode as the code has it, and what an element has to choose from by it.
use Rattle.std.specs.Prelude.{ℕ, ◌<◌, ◌≡◌, Bool, true, false, cond, eqb, List, []}
use Rattle.numbers.specs.Limit.{most_word}
use Rattle.table.specs.Words.{substitutes_in}
use Rattle.table.specs.Rows.{table_of}
use Rattle.table.specs.Views.{Listed}
use Rattle.table.specs.declared.answers.TypeList.{TypeList}
use Rattle.model.specs.Model.{Types}
use Rattle.model.specs.Items as items
use Rattle.model.specs.declared.Lengths.{Lengths}
use Rattle.model.specs.declared.Lengths.TheVariants.{Never, Optional, Always}
use Rattle.model.specs.declared.Choices.{Choices}
use Rattle.model.specs.declared.Mode.{Mode}

unfoldable pub lengths_is : Lengths → items.Lengths
lengths_is Never = items.Lengths.never
lengths_is Optional = items.Lengths.optional
lengths_is Always = items.Lengths.always

abbrev pub mode_is : Mode → items.Mode
mode_is m = record { lengths = lengths_is m.lengths; casting = m.choices.derived }

-- substitutes and derived types to choose from, or not
abbrev pub offers : Bool → Bool → Choices
offers substitutes derived = record { any = cond substitutes true derived; substitutes = substitutes; derived = derived }

-- the root is of no row, and has nothing to choose from
abbrev pub no_row : ℕ
no_row = most_word

abbrev pub row_choices : Choices → ℕ → Choices
row_choices c row = cond (eqb row no_row) (record { any = false; substitutes = false; derived = false }) c

-- a list of types as the code has it, at a place that can be counted on from
pub record Lists (l types : List ℕ) (r : TypeList) : Type 0 where
  pub listed : Listed l types r
  pub near : r.first < 4398046511104

-- what an element of a row and a type has to choose from
abbrev pub types_by : List ℕ → Choices → ℕ → ℕ → Types
types_by l c type row =
    record {
      own = type;
      substitutes = cond c.substitutes ((table_of l).substitutes row) [];
      derived = λ t. cond c.derived ((table_of l).derived t) [];
    }

-- who looks for no substitutes has a table without any; who looks for nothing, for neither
pub record Choosing (l : List ℕ) (c : Choices) : Type 0 where
  pub none : c.substitutes ≡ false → substitutes_in l ≡ 0
  pub neither : c.any ≡ false → (c.substitutes ≡ false) × (c.derived ≡ false)
