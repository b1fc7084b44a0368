-- What the functions of reading promise of the slices that they are given and lent: by a table's words, which the reader takes, or by its bytes,
-- as a host has them.
use Rattle.std.specs.Prelude.{ℕ, ◌≤◌, ◌≡◌, List, length}
use Rattle.numbers.specs.Limit as limit
use Rattle.numbers.specs.Refusal.{event_room}
use Rattle.model.specs.Whole.{Reply, outcome, reading, texts_left}
use Rattle.call_parts.specs.Area.{area_of}
use Rattle.call_parts.specs.Calls.{read_bytes, events_back}
use Rattle.call_parts.specs.Promises.{LentSlice, Given, Lent, given, before, after}
use Rattle.call_parts.specs.EventRoom.{slot_words}
use Rattle.call_parts.specs.declared.asked.Asked.{Asked}

-- what is asked of the bytes that are lent for events, and of the area
pub record Slots (events area : LentSlice) (room : ℕ) : Type 0 where
  pub few : slot_words (length events.now) ≤ room
  pub told : length area.now ≡ limit.area

-- all that a call of the reading gives back, of e bytes for events and x for texts: the number, the area, the events as bytes, the texts
pub record ReadBack (R : Reply) (e x r : ℕ) (A E X : List ℕ) : Type 0 where
  pub number : r ≡ (outcome R).number
  pub area : A ≡ area_of (outcome R)
  pub events : E ≡ events_back e R
  pub texts : X ≡ texts_left x R

-- a reading as a function leaves it
abbrev pub Read : Reply → (events texts area : Lent) → ℕ → Type 0
Read R events texts area r = ReadBack R (length (before events)) (length (before texts)) r (after area) (after events) (after texts)

-- table, who reads what, payload, words lent for events; events, texts and area; the number
abbrev pub ReadInto : (words : Given) → Asked → (payload : Given) → ℕ → (events texts area : Lent) → ℕ → Type 0
ReadInto words by payload m events texts area r =
    Read (reading (given words) by.party by.name by.ty (given payload) m (length (before texts))) events texts area r

abbrev pub ReadByWords : (words : Given) → Asked → (payload : Given) → (events texts area : Lent) → ℕ → Type 0
ReadByWords words by payload events texts area r = ReadInto words by payload (slot_words (length (before events))) events texts area r

abbrev pub ReadByBytes : (table : Given) → Asked → (payload : Given) → (events texts area : Lent) → ℕ → Type 0
ReadByBytes table by payload events texts area r =
    Read (read_bytes (given table) by.party by.name by.ty (given payload) (length (before events)) (length (before texts))) events texts area r

-- the reading is that, in room that suffices; and in room that may not, unless it is refused for lack of it
pub record Suffices (m room r : ℕ) (is : Type 0) : Type 0 where
  pub enough : m ≤ room → is
  pub roomy : (r ≡ event_room → ⊥) → is

abbrev pub ReadIfRoom : (words : Given) → Asked → (payload : Given) → (room events texts area : Lent) → ℕ → Type 0
ReadIfRoom words by payload room events texts area r =
    Suffices (slot_words (length (before events))) (length (before room)) r (ReadByWords words by payload events texts area r)
