-- The rows that a row holds, as the code finds them.
use Rattle.std.specs.Prelude.{ℕ, suc, ◌+◌, ◌-◌, ◌<◌, ◌≤◌, ◌≡◌, ◌⊎◌, List, [], Result, Ok, Err}
use Rattle.numbers.specs.Refused.{number_of}
use Rattle.numbers.specs.declared.refusal.Fault.{Fault}
use Rattle.wire.specs.declared.Bits.{Bits}
use Rattle.numbers.specs.Kind as kinds
use Rattle.numbers.specs.Limit.{most_name}
use Rattle.table.specs.Words.{types_in, particles_in}
use Rattle.table.specs.Rows.{Row}
use Rattle.table.specs.Rows.Row.{element, sequence, choice, occurs}
use Rattle.model.specs.Model.{event, Answer}
use Rattle.model.specs.Model.Answer.{refused}
use Rattle.model.specs.Model.Item.{picked, counted}
use Rattle.model.specs.Items.{item_at}
use Rattle.model.specs.Read.{Room, after, code, stored}
use Rattle.model.specs.Modes.{types_by, row_choices}
use Rattle.model.specs.declared.Mode.{Mode}
use Rattle.reader_parts.specs.Out.{Out, Step, room_of, outcome}
use Rattle.reader_parts.specs.Out.Out.{went, stopped}
use Rattle.reader_parts.specs.declared.Cursor.{Cursor}
use Rattle.reader.specs.Meaning.{ReadyFor, Owned, Fits, Lies, element·, row·, list·}
use Rattle.reader.specs.declared.groups.Aim.{Aim}
use Rattle.reader.specs.declared.groups.Aim.TheVariants as aim·is
use Rattle.reader.specs.declared.groups.Run.{Run}

-- the rows of a row; or what is refused, and where
abbrev pub Group : Type 0
Group = Result Run (Fault Bits)

-- rows, once an event is stored
abbrev pub run_by : Step → (first step count : ℕ) → Group
run_by (Err e) first step count = Err e
run_by (Ok c) first step count = Ok record { first = first; step = step; count = count; cursor = c }

-- how rows are read: the first, the step from one to the next, how many; the room and the place
abbrev pub Reading : Type 0
Reading = (first step count : ℕ) → Room → ℕ → Answer

-- what a row that holds rows reads, by how rows are read
unfoldable pub group_at : Reading → Row → (ℕ → ℕ) → Room → List ℕ → ℕ → ℕ → Answer
group_at K (element name type row) b r π wall at = refused 0 0 []
group_at K (sequence first n) b r π wall at = K first 1 n r at
group_at K (choice first n) b r π wall at =
    code (item_at (picked n) b wall at) π at (λ (v, ts, q). after r (stored r π at (event kinds.pick v 0 (q - at)) ts q) (λ u p. K (first + v) 0 1 u p))
group_at K (occurs child least most) b r π wall at =
    code (item_at (counted least most) b wall at) π at (λ (v, ts, q). after r (stored r π at (event kinds.times v 0 (q - at)) ts q) (λ u p. K child 0 v u p))

-- what an answer leaves
unfoldable pub group_view : Reading → Group → (π E T : List ℕ) → Out
group_view K (Err e) π E T = stopped (number_of e.why) e.at.0 π
group_view K (Ok x) π E T = outcome (K x.first x.step x.count (room_of E T x.cursor) x.cursor.at.0) x.cursor π E T

-- rows are in a table of P rows: one after another, or all one row
abbrev pub Placed : (P : ℕ) → Group → Type 0
Placed P (Ok x) = ((x.step ≡ 1) × (x.first + x.count ≤ P)) ⊎ ((x.step ≡ 0) × (x.first < P))
Placed P (Err e) = Unit {0}

-- CONTRACT, for every path, however rows are read
pub record Groups (row : Row) (b : ℕ → ℕ) (wall : ℕ) (c : Cursor) (E : List ℕ) (r : Group) (E' : List ℕ) : Type 0 where
  pub says : (K : Reading) (T π : List ℕ) → group_view K r π E' T ≡ outcome (group_at K row b (room_of E T c) π wall c.at.0) c π E T
  pub placed : (types P : ℕ) → Fits types P row → Placed P r

-- what an answer leaves, where d rows may be opened inside the row
module _ (t s : List ℕ) (mode : Mode) (d wall : ℕ) where
  unfoldable pub aim_view : Aim → (π E T : List ℕ) → Out
  aim_view (aim·is.Refuse e) π E T = stopped (number_of e.why) e.at.0 π
  aim_view (aim·is.Go c) π E T = went c.at.0 c.count c.used π E T
  aim_view (aim·is.Element y) π E T =
      outcome (element· t s mode y.depth y.name (types_by t (row_choices mode.choices y.own) y.t y.own) (room_of E T y.cursor) π wall y.cursor.at.0) y.cursor π E T
  aim_view (aim·is.Rows x) π E T = outcome (list· t s mode 0 0 d x.first x.step x.count (room_of E T x.cursor) π wall x.cursor.at.0) x.cursor π E T

-- an element is as a row that fits names it, and no more rows may be opened inside it; rows are in the table
abbrev pub Aimed : (t : List ℕ) (d : ℕ) → Aim → Type 0
Aimed t d (aim·is.Element y) = (y.name ≤ most_name) × (y.t < types_in t) × Owned (particles_in t) y.own × (y.depth ≤ d)
Aimed t d (aim·is.Rows x) = Lies (particles_in t) x.first x.step x.count
Aimed t d (aim·is.Refuse e) = Unit {0}
Aimed t d (aim·is.Go c) = Unit {0}

-- CONTRACTS, for every path and mode. Of rows
pub record Narrows (t : List ℕ) (d : ℕ) (x : Run) (r : Aim) : Type 0 where
  pub says : (s : List ℕ) (mode : Mode) (wall : ℕ) → ReadyFor t s mode wall 0 0 → (π E T : List ℕ) → aim_view t s mode d wall r π E T ≡ aim_view t s mode d wall (aim·is.Rows x) π E T
  pub aimed : Aimed t d r

-- of a row
pub record Aims (t s : List ℕ) (d : ℕ) (row : Row) (wall : ℕ) (c : Cursor) (E : List ℕ) (r : Aim) (E' : List ℕ) : Type 0 where
  pub says : (mode : Mode) → ReadyFor t s mode wall 0 0 → (T π : List ℕ) → aim_view t s mode d wall r π E' T ≡ outcome (row· t s mode (suc d) row (room_of E T c) π wall c.at.0) c π E T
  pub aimed : Aimed t d r
