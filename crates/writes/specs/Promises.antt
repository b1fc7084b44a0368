-- What the functions of writing promise of the slices that they are given and lent: by a table's words, which the writer takes, or by its bytes,
-- as a host has them.
use Rattle.std.specs.Prelude.{ℕ, ◌/◌, ◌≡◌, List, length}
use Rattle.numbers.specs.Limit as limit
use Rattle.model.specs.Whole.{Made, outcome_made, payload_left}
use Rattle.call_parts.specs.Area.{area_of}
use Rattle.call_parts.specs.Calls.{unlisted, write_list, write_bytes}
use Rattle.call_parts.specs.Promises.{Given, Lent, given, before, after}
use Rattle.call_parts.specs.declared.asked.Order.{Order}

-- all that a call of the writing gives back, by the mode, the counts of events and text bytes, and the bytes for the payload
pub record WrittenBack (M : Made) (mode n x p r : ℕ) (A P : List ℕ) : Type 0 where
  pub number : r ≡ (outcome_made mode n x M).number
  pub area : A ≡ area_of (outcome_made mode n x M)
  pub payload : P ≡ payload_left p M

-- a writing of n events as a function leaves it
abbrev pub Wrote : Made → (mode n : ℕ) (texts : Given) (payload area : Lent) → ℕ → Type 0
Wrote M mode n texts payload area r = WrittenBack M mode n (length (given texts)) (length (before payload)) r (after area) (after payload)

-- table, who writes what; events, texts, payload and area; the number
abbrev pub WrittenByWords : (words : Given) → Order → (events texts : Given) → (payload area : Lent) → ℕ → Type 0
WrittenByWords words by events texts payload area r =
    Wrote (write_list (given words) by.party by.name by.ty by.mode (given events) (given texts) (length (before payload)))
    by.mode (length (given events) / limit.event) texts payload area r

abbrev pub WrittenByBytes : (table : Given) → Order → (events texts : Given) → (payload area : Lent) → ℕ → Type 0
WrittenByBytes table by events texts payload area r =
    Wrote (write_bytes (given table) by.party by.name by.ty by.mode (given events) (given texts) (length (before payload)))
    by.mode (length (given events) / limit.event) texts payload area r

-- bytes that are no list refused, n whole events of them
abbrev pub Unlisted : (n : ℕ) (words : Given) → Order → (texts : Given) → (payload area : Lent) → ℕ → Type 0
Unlisted n words by texts payload area r =
    Wrote (unlisted (given words) by.party by.name by.ty by.mode n) by.mode n texts payload area r
