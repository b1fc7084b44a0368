-- What stands before an element's rows, part by part, each up to its value.
use Rattle.std.specs.Prelude.{ℕ, ◌-◌, ◌≡◌, List, [], Bool, cond}
use Rattle.numbers.specs.Kind as kinds
use Rattle.table.specs.Rows.{Attribute, table_of, attribute_of}
use Rattle.table.specs.declared.answers.Content as code·content
use Rattle.table.specs.declared.answers.Content.TheVariants.{Empty, Simple, Particles}
use Rattle.model.specs.Model.{event, attribute, attributes, value, maybe, Plan}
use Rattle.model.specs.Model.Plan.{done}
use Rattle.model.specs.Items.{Lengths}
use Rattle.model.specs.Read.{after, stored, read}
use Rattle.reader_parts.specs.declared.Cursor.{Cursor}
use Rattle.numbers.specs.Refused.{number_of}
use Rattle.reader_parts.specs.declared.attributes.Lead.{Lead}
use Rattle.reader_parts.specs.declared.attributes.Lead.TheVariants.{Refuse, Go, Value}
use Rattle.reader_parts.specs.Out.{Out, Step, step_view, room_of, outcome, own_value}
use Rattle.reader_parts.specs.Out.Out.{went, stopped}

-- the value that a content is, if it is one, is next
abbrev pub own_lead : Cursor → code·content.Content → Lead
own_lead c Empty = Go c
own_lead c (Simple kind x y) = Value record { cursor = c; simple = kind; x = x; y = y }
own_lead c (Particles row) = Go c

-- by a table's words, of an element of a type: a part, the attribute of a row, where there are more, else the value that its content is; and all parts
unfoldable pub part_at : (l : List ℕ) (type row : ℕ) (more : Bool) → Plan
part_at l type row more = cond more (attribute (attribute_of l row).must (attribute_of l row) done) (own_value ((table_of l).content type))

abbrev pub before_rows : List ℕ → ℕ → Plan
before_rows l type = attributes ((table_of l).attributes type) (own_value ((table_of l).content type))

module _ (b : ℕ → ℕ) (mode : Lengths) (held : ℕ → Bool) (wall : ℕ) where
  -- what is left once the value that is next, if one is, is read
  unfoldable pub lead_view : Lead → (π E T : List ℕ) → Out
  lead_view (Refuse e) π E T = stopped (number_of e.why) e.at.0 π
  lead_view (Go c) π E T = went c.at.0 c.count c.used π E T
  lead_view (Value v) π E T =
      outcome (read b mode held (value v.simple v.x v.y done) (room_of E T v.cursor) π wall v.cursor.at.0) v.cursor π E T

-- CONTRACTS, for every path and in every mode; texts are not touched, whatever they are. A plan read up to its value
pub record Leads (P : Plan) (b : ℕ → ℕ) (wall : ℕ) (c : Cursor) (E : List ℕ) (l : Lead) (E' : List ℕ) : Type 0 where
  pub says : (mode : Lengths) (held : ℕ → Bool) (T π : List ℕ) → lead_view b mode held wall l π E' T ≡ outcome (read b mode held P (room_of E T c) π wall c.at.0) c π E T

-- an attribute's event stored, with whether it is present, and its value is next where it is, whatever the bits are
pub record LeadNotes (present next : ℕ) (a : Attribute) (c : Cursor) (E : List ℕ) (l : Lead) (E' : List ℕ) : Type 0 where
  pub says : (b : ℕ → ℕ) (wall : ℕ) (mode : Lengths) (held : ℕ → Bool) (T π : List ℕ) → lead_view b mode held wall l π E' T
      ≡ outcome (after (room_of E T c) (stored (room_of E T c) π c.at.0 (event kinds.attribute a.name present (next - c.at.0)) [] next)
      (λ u p. read b mode held (maybe present (value a.simple a.b a.c done) done) u π wall p)) c π E T

-- the value that is next read, if one is
pub record Finishes (l : Lead) (b : ℕ → ℕ) (wall : ℕ) (E T : List ℕ) (s : Step) (E' T' : List ℕ) : Type 0 where
  pub says : (mode : Lengths) (held : ℕ → Bool) (π : List ℕ) → step_view s π E' T' ≡ lead_view b mode held wall l π E T
