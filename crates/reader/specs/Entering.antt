-- What an element comes to up to its rows, and what is left of it then.
use Rattle.std.specs.Prelude.{ℕ, ◌*◌, ◌≤◌, ◌≡◌, List, ◌∷◌, Bool, length, Ok, Err}
use Rattle.numbers.specs.Refused.{number_of}
use Rattle.table.specs.Words.{particles_in}
use Rattle.table.specs.Rows.{Row}
use Rattle.table.specs.Rows.Row.{element, sequence, choice, occurs}
use Rattle.model.specs.Model.{Types}
use Rattle.model.specs.declared.Mode.{Mode}
use Rattle.reader_parts.specs.Out.{Out, Step, room_of, outcome}
use Rattle.reader_parts.specs.Out.Out.{went, stopped}
use Rattle.reader_parts.specs.declared.Cursor.{Cursor}
use Rattle.reader.specs.Meaning.{Lies, whole·, element·, rest_by·}
use Rattle.reader.specs.declared.entering.Entry.{Entry}
use Rattle.reader.specs.declared.entering.Extent.{Extent}
use Rattle.reader.specs.declared.entering.Entered.{Entered}
use Rattle.reader.specs.declared.entering.Entered.TheVariants.{Refuse, Done, Full, In}

-- what the last part of an element leaves of it
abbrev pub filled_by : Step → Entered
filled_by (Ok c) = Done c
filled_by (Err e) = Full e

-- the rows of an element with a content row of a number: this row, or where it is a sequence the rows of that, with the sequence open: the first, the step
-- from one to the next, how many; and how many rows are opened around them
abbrev pub rows_of : ℕ → Row → ℕ × ℕ × ℕ × ℕ
rows_of i (element name type row) = (i, 0, 1, 0)
rows_of i (sequence first n) = (first, 1, n, 1)
rows_of i (choice first n) = (i, 0, 1, 0)
rows_of i (occurs child least most) = (i, 0, 1, 0)

-- what is left of it
abbrev pub entry_of : Cursor → ℕ × ℕ × ℕ × ℕ → Extent → Entry
entry_of c x e = record { rows = record { cursor = c; first = x.0; step = x.1; count = x.2 }; opens = x.3; extent = e }

-- an element's rows are in a table of P rows, and its wall is not past w
abbrev pub Rowing : (P w : ℕ) → Entered → Type 0
Rowing P w (In x) = Lies P x.rows.first x.rows.step x.rows.count × (x.extent.wall.0 ≤ w)
Rowing P w (Refuse e) = Unit {0}
Rowing P w (Done c) = Unit {0}
Rowing P w (Full e) = Unit {0}

module _ (t s : List ℕ) (mode : Mode) where
  -- what an answer leaves of an element of a name, where its rows are read with depth d
  unfoldable pub entered_view : (d name : ℕ) → Entered → (π E T : List ℕ) → Out
  entered_view d name (Refuse e) π E T = stopped (number_of e.why) e.at.0 π
  entered_view d name (Done c) π E T = went c.at.0 c.count c.used π E T
  entered_view d name (Full e) π E T = stopped (number_of e.why) e.at.0 (name ∷ π)
  entered_view d name (In x) π E T =
      outcome (rest_by· t s mode d x (room_of E T x.rows.cursor) (name ∷ π) x.extent.wall.0 x.rows.cursor.at.0) x.rows.cursor π E T

  -- CONTRACTS, for every depth and every path. Of an open element of a type, whatever its name
  pub record Fills (type : ℕ) (coded : Bool) (body wall : ℕ) (c : Cursor) (E T : List ℕ) (r : Entered) (E' T' : List ℕ) : Type 0 where
    pub says : (d name : ℕ) (π : List ℕ) → entered_view d name r π E' T' ≡ outcome (whole· t s mode d type coded body (room_of E T c) (name ∷ π) wall c.at.0) c π E T
    pub rowing : Rowing (particles_in t) (8 * length s) r

  -- of an element
  pub record Enters (name : ℕ) (y : Types) (wall : ℕ) (c : Cursor) (E T : List ℕ) (r : Entered) (E' T' : List ℕ) : Type 0 where
    pub says : (d : ℕ) (π : List ℕ) → entered_view d name r π E' T' ≡ outcome (element· t s mode d name y (room_of E T c) π wall c.at.0) c π E T
    pub rowing : Rowing (particles_in t) (8 * length s) r
