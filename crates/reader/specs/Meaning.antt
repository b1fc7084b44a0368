-- What each function of the cycle means, by the reading's steps in crate model, and what it asks.
use Rattle.std.specs.Prelude.{ℕ, zero, suc, ◌+◌, ◌-◌, ◌*◌, ◌<◌, ◌≤◌, ◌≡◌, ◌⊎◌, List, Bool, true, false, cond, eqb, ltb, length}
use Rattle.numbers.specs.Refusal as refusal
use Rattle.numbers.specs.Kind as kinds
use Rattle.numbers.specs.Limit.{most_name, most_names, parties}
use Rattle.wire.specs.Bits.{bit_at}
use Rattle.wire.specs.declared.Bits.{Bits}
use Rattle.table.specs.First.Verdict.{right}
use Rattle.table.specs.Valid.{verdict}
use Rattle.table.specs.Words.{types_in, particles_in}
use Rattle.table.specs.Rows.{Row, Table, table_of, held_of}
use Rattle.table.specs.Rows.Row.{element, sequence, choice, occurs}
use Rattle.model.specs.Model.{event, Types, table_in, Answer}
use Rattle.model.specs.Model.Nodes.{none}
use Rattle.model.specs.Model.Answer.{given, refused}
use Rattle.model.specs.Model.Item.{picked, counted}
use Rattle.model.specs.Items.{Lengths, item_at, head_at}
use Rattle.model.specs.Modes.{lengths_is, types_by, Choosing, no_row, row_choices}
use Rattle.model.specs.Read.{Room, after, code, stored, opened}
use Rattle.model.specs.Steps.{particle_at, rounds_at, content_at, inside_at}
use Rattle.model.specs.declared.Mode.{Mode}
use Rattle.reader_parts.specs.Out.{room_of, outcome, ending}
use Rattle.reader_parts.specs.declared.Cursor.{Cursor}
use Rattle.reader_parts.specs.declared.Head.{Head}
use Rattle.reader_parts.specs.declared.Head.TheVariants.{Bare, Sized}
use Rattle.reader.specs.RefusalPath.{Walk, view}
use Rattle.reader.specs.declared.entering.Entry.{Entry}
use Rattle.reader.specs.declared.entering.Extent.{Extent}

-- by the room that is left, the path, the wall and the place
abbrev pub Meaning : Type 0
Meaning = Room → List ℕ → ℕ → ℕ → Answer

-- a function walks as its meaning says, from the cursor on, in an element whose path is π; N are the names told
abbrev pub Walks : Meaning → ℕ → Cursor → List ℕ → List ℕ → List ℕ → Walk → List ℕ → List ℕ → List ℕ → Type 0
Walks f wall c π E T w N E' T' = view w π N E' T' ≡ outcome (f (room_of E T c) π wall c.at.0) c π E T

-- what a head says of an element below a wall
abbrev pub reach_of : Head → Bits → Extent
reach_of (Bare body) wall = record { coded = false; body = body; wall = wall }
reach_of (Sized body inner) wall = record { coded = true; body = body; wall = inner }

-- what is asked: the table is right and has no substitutes where none are looked for, the wall is in the payload, and the path has a place for
-- each row that may still be opened
pub record Ready (t s : List ℕ) (mode : Mode) (wall n depth : ℕ) : Type 0 where
  pub valid : verdict t ≡ right
  pub choosing : Choosing t mode.choices
  pub walls : wall ≤ 8 * length s
  pub places : n + depth ≤ most_names

-- the same, and the party is one of those
pub record ReadyFor (t s : List ℕ) (mode : Mode) (wall n depth : ℕ) : Type 0 where
  pub valid : verdict t ≡ right
  pub choosing : Choosing t mode.choices
  pub party_known : mode.party < parties
  pub walls : wall ≤ 8 * length s
  pub places : n + depth ≤ most_names

-- an element is of a row of a table of P rows, or of none, as the root is
abbrev pub Owned : (P row : ℕ) → Type 0
Owned P row = (row ≡ no_row → ⊥) → row < P

-- a row names types and rows of a table of T types and P rows
abbrev pub Fits : (T P : ℕ) → Row → Type 0
Fits T P (element name type row) = (name ≤ most_name) × (type < T) × Owned P row
Fits T P (sequence first n) = first + n ≤ P
Fits T P (choice first n) = first + n ≤ P
Fits T P (occurs child least most) = child < P

-- a row that is no element, or an element's that is its own
abbrev pub Rowed : Row → Type 0
Rowed (element name type row) = row ≡ no_row → ⊥
Rowed (sequence first n) = Unit {0}
Rowed (choice first n) = Unit {0}
Rowed (occurs child least most) = Unit {0}

-- a row that holds rows; each branch's number fits a word
abbrev pub Holds : Row → Type 0
Holds (element name type row) = ⊥
Holds (sequence first n) = Unit {0}
Holds (choice first n) = first + n < 4294967296
Holds (occurs child least most) = Unit {0}

-- rows are in a table of P rows: one after another, or all one row
abbrev pub Lies : (P first step count : ℕ) → Type 0
Lies P first step count = ((step ≡ 1) × (first + count ≤ P)) ⊎ ((step ≡ 0) × (first < P))

-- the row of a number by a table; the root, of a name and a type, is of none
unfoldable pub row_for : (t : List ℕ) (name type i : ℕ) → Row
row_for t name type i = cond (eqb i no_row) (element name type no_row) ((table_of t).row i)

-- so many rows from one on, each a step past the one before, are in the table or the root's; each number fits a word
unfoldable pub Known : (t : List ℕ) (name type i step n : ℕ) → Type 0
Known t name type i step zero = Unit {0}
Known t name type i step (suc n) = Fits (types_in t) (particles_in t) (row_for t name type i) × (i + step < 4294967296) × Known t name type (i + step) step n

-- the same, each of a row of the table's own, or of none
unfoldable pub KnownRows : (t : List ℕ) (name type i step n : ℕ) → Type 0
KnownRows t name type i step zero = Unit {0}
KnownRows t name type i step (suc n) =
    Fits (types_in t) (particles_in t) (row_for t name type i) × Owned (particles_in t) i × (i + step < 4294967296) × KnownRows t name type (i + step) step n

module _ (t s : List ℕ) (mode : Mode) where
  abbrev pub b : ℕ → ℕ
  b = bit_at s

  abbrev pub lengths : Lengths
  lengths = lengths_is mode.lengths

  -- by the party's marks
  abbrev pub held : ℕ → Bool
  held = held_of t mode.party

  abbrev pub schema : Table
  schema = table_in mode.choices.derived (table_of t)

  unfoldable pub particle· : ℕ → Row → Meaning
  particle· d row r π wall at = particle_at b lengths held schema d row r π wall at

  unfoldable pub rounds· : ℕ → (ℕ → Row) → ℕ → Meaning
  rounds· d g n r π wall at = rounds_at b lengths held schema d n g r π wall at

  unfoldable pub content· : ℕ → ℕ → Meaning
  content· d ty r π wall at = content_at b lengths held schema d ((table_of t).content ty) r π wall at

  unfoldable pub inside· : ℕ → ℕ → Meaning
  inside· d ty r π wall at = inside_at b lengths held schema d ty r π wall at

  -- what is inside an element, and its end
  unfoldable pub whole· : ℕ → ℕ → Bool → ℕ → Meaning
  whole· d ty coded body r π wall at = after r (inside· d ty r π wall at) (λ u q. ending coded body wall u π q)

  unfoldable pub element· : ℕ → ℕ → Types → Meaning
  element· d name y r π wall at = code (head_at lengths b wall at) π at (opened b lengths held (inside· d) name y r π wall at)

  unfoldable pub choose· : ℕ → ℕ → ℕ → Meaning
  choose· d first n r π wall at =
      code (item_at (picked n) b wall at) π at (λ (v, ts, q). after r (stored r π at (event kinds.pick v 0 (q - at)) ts q) (λ u p. particle· d ((table_of t).row (first + v)) u π wall p))

  unfoldable pub occur· : ℕ → ℕ → ℕ → ℕ → Meaning
  occur· d child least most r π wall at =
      code (item_at (counted least most) b wall at) π at (λ (v, ts, q). after r (stored r π at (event kinds.times v 0 (q - at)) ts q) (λ u p. rounds· d (λ j. (table_of t).row child) v u π wall p))

  -- a row that may be the root's, where rows may still be opened
  unfoldable pub row· : ℕ → Row → Meaning
  row· zero row r π wall at = refused refusal.depth at π
  row· (suc d) (element name ty own) r π wall at = element· d name (types_by t (row_choices mode.choices own) ty own) r π wall at
  row· (suc d) (sequence first n) r π wall at = rounds· d (λ j. (table_of t).row (first + j)) n r π wall at
  row· (suc d) (choice first n) r π wall at = choose· d first n r π wall at
  row· (suc d) (occurs child least most) r π wall at = occur· d child least most r π wall at

  -- rows that a row holds, by the step from one to the next: all one row, or one after another
  unfoldable pub runs· : (d first step n : ℕ) → Meaning
  runs· d first zero n r π wall at = rounds· d (λ j. (table_of t).row first) n r π wall at
  runs· d first (suc k) n r π wall at = rounds· d (λ j. (table_of t).row (first + j)) n r π wall at

  -- n rows from one on, each a step past the one before
  unfoldable pub list· : (name type d i step n : ℕ) → Meaning
  list· name type d i step zero r π wall at = given none at
  list· name type d i step (suc n) r π wall at =
      after r (row· d (row_for t name type i) r π wall at) (λ u p. list· name type d (i + step) step n u π wall p)

  -- the same inside so many rows that are opened first
  unfoldable pub below· : (d opens first step n : ℕ) → Meaning
  below· d opens first step n r π wall at = cond (ltb d opens) (refused refusal.depth at π) (list· 0 0 (d - opens) first step n r π wall at)

  -- what is left of an element that has rows: its content row, and its end
  unfoldable pub rest· : (d row : ℕ) → Bool → ℕ → Meaning
  rest· d row coded body r π wall at = after r (list· 0 0 d row 0 1 r π wall at) (λ u q. ending coded body wall u π q)

  -- the same by the rows that it has
  unfoldable pub rest_by· : (d : ℕ) → Entry → Meaning
  rest_by· d x r π wall at = after r (below· d x.opens x.rows.first x.rows.step x.rows.count r π wall at) (λ u q. ending x.extent.coded x.extent.body.0 wall u π q)
