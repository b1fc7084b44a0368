-- What the functions under the calls for C promise of the slices that they are given and lent.
use Rattle.std.specs.Prelude.{ℕ, ◌+◌, ◌*◌, ◌/◌, ◌%◌, ◌≤◌, ◌<◌, ◌≡◌, List, length, set}
use Rattle.std.specs.Borrow.{Bor, MutBor}
use denote.Triple.Both.{Both}
use Rattle.numbers.specs.Limit as limit
use Rattle.model.specs.Whole.{Outcome}
use Rattle.table.specs.Words.{type_at, word_at}
use Rattle.table.specs.Views.{Set, set_number, set_place}
use Rattle.call_parts.specs.Area.{area_of}
use Rattle.call_parts.specs.Calls.{set_outcome, table_left}

-- a slice that is given, and one that is lent, at a moment; and as a promise has them, when the function was called and when it returned
abbrev pub Slice : Type 0
Slice = Bor (List ℕ)

abbrev pub LentSlice : Type 0
LentSlice = MutBor (List ℕ)

abbrev pub Given : Type 0
Given = Both Slice Slice

abbrev pub Lent : Type 0
Lent = Both LentSlice LentSlice

abbrev pub given : Given → List ℕ
given s = s.entry.now

abbrev pub before : Lent → List ℕ
before s = s.entry.now

abbrev pub after : Lent → List ℕ
after s = s.exit.now

-- an outcome told: the area, and the number that is returned
abbrev pub Told : Lent → Outcome → ℕ → Type 0
Told area o r = (r ≡ o.number) × (after area ≡ area_of o)

-- what is asked of a table's bytes or of a list's, and of the area: whole units, and no more words than there is room for
pub record Fits (unit : ℕ) (bytes : Slice) (area : LentSlice) (room : ℕ) : Type 0 where
  pub whole : length bytes.now % unit ≡ 0
  pub few : length bytes.now / 4 ≤ room
  pub told : length area.now ≡ limit.area

-- the held word of a type, among so many bytes of a table and so many words of it; and the table with that word's lowest byte stored
abbrev pub Holds : (type bytes words : ℕ) → Type 0
Holds type bytes words = (4 * type_at type + 3 < bytes) × (type_at type < words)

abbrev pub mark_stored : (t words : List ℕ) (type : ℕ) → List ℕ
mark_stored t words type = set t (4 * type_at type + 3) (word_at words (type_at type) % 256)

-- a mark set: the table before, party, type and mark; the answer; the table after
pub record SetByBytes (t : List ℕ) (party type mark : ℕ) (r : Set) (t' : List ℕ) : Type 0 where
  pub number : set_number r ≡ (set_outcome t party type).number
  pub place : set_place r ≡ (set_outcome t party type).place
  pub table : t' ≡ table_left t party type mark (set_outcome t party type).number
