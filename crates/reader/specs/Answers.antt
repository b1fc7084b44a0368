-- What an entry promises: its answer, in document 01's numbers, and what it leaves in the lent buffers.
use Rattle.std.specs.Prelude.{ℕ, zero, suc, ◌≡◌, List, [], ◌∷◌, ◌++◌, get_or, Result, Ok, Err}
use Rattle.numbers.specs.Refused.{number_of}
use Rattle.model.specs.Whole.{mode_number, Reply, Outcome, declines, outcome, events_left, texts_left}
use Rattle.model.specs.Modes.{mode_is}
use Rattle.model.specs.declared.Mode.{Mode}
use Rattle.reader_parts.specs.declared.Cursor.{Cursor}
use Rattle.reader_parts.specs.declared.Path.{Path}
use Rattle.reader.specs.declared.Reading.{Reading}
use Rattle.reader.specs.declared.Refused.{Refused}

-- the first n names
unfoldable pub first_names : List ℕ → ℕ → List ℕ
first_names l zero = []
first_names l (suc n) = first_names l n ++ (get_or l n 0 ∷ [])

-- the names of the open elements, the outermost first
abbrev pub path_is : Path → List ℕ
path_is p = first_names p.names p.count

-- what an entry answers
abbrev pub Answer : Type 0
Answer = Result Reading Refused

-- on acceptance number and place are 0 and the path is empty; on a refusal all but number, place and path is 0
abbrev pub answer_is : Answer → Outcome
answer_is (Ok r) = record { number = 0; place = 0; mode = r.mode; events = r.events; text = r.text.0; bits = r.bits.0; path = [] }
answer_is (Err r) = declines (number_of r.fault.why) r.fault.at (path_is r.path)

-- THE PROMISE: the answer, and what is left in lent events of so many words and in lent texts of so many bytes
pub record Replies (R : Reply) (words bytes : ℕ) (r : Answer) (E T : List ℕ) : Type 0 where
  pub answer : answer_is r ≡ outcome R
  pub events_left_lem : E ≡ events_left words R
  pub texts_left_lem : T ≡ texts_left bytes R

-- what is said where a walk ended at a cursor
abbrev pub told : Mode → Cursor → Outcome
told mode c = record { number = 0; place = 0; mode = mode_number (mode_is mode); events = c.count; text = c.used; bits = c.at.0; path = [] }
