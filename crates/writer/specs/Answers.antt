-- What the entry promises: its answer, in document 01's numbers, and what it leaves in the lent payload.
use Rattle.std.specs.Prelude.{ℕ, ◌≡◌, List, [], Result, Ok, Err}
use Rattle.numbers.specs.declared.refusal.Fault.{Fault}
use Rattle.numbers.specs.Refused.{number_of}
use Rattle.model.specs.Whole.{Made, Outcome, declines, outcome_made, payload_left}
use Rattle.writer_parts.specs.declared.Spot.{Spot}
use Rattle.writer.specs.declared.Written.{Written}

-- what is said of a payload that was made
abbrev pub says : ℕ → ℕ → ℕ → ℕ → Outcome
says mode events text bits = record { number = 0; place = 0; mode = mode; events = events; text = text; bits = bits; path = [] }

-- what was written, or what is refused and where
abbrev pub Answer : Type 0
Answer = Result Written (Fault ℕ)

abbrev pub answer_is : Answer → Outcome
answer_is (Ok w) = says w.mode w.events w.text.0 w.bits.0
answer_is (Err f) = declines (number_of f.why) f.at []

-- where the walk begins
abbrev pub origin : Spot
origin = record { event = 0; used = 0; bits = 0 }

-- THE PROMISE: the answer, and what is left in a lent payload of so many bytes
pub record Writes (m : Made) (mode events text room : ℕ) (r : Answer) (P : List ℕ) : Type 0 where
  pub answer : answer_is r ≡ outcome_made mode events text m
  pub left : P ≡ payload_left room m
