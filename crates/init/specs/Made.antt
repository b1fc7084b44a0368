-- What the writing gives back: the answer, and the message's final content.
use Rattle.std.specs.Prelude.{ℕ, ◌+◌, ◌-◌, ◌≡◌, cond, List, ◌++◌, ltb, length, replicate, Option, Some, None}
use Rattle.numbers.specs.Refusal.{accepted, no_reading, payload_room}
use Rattle.numbers.specs.Limit.{init_words}
use Rattle.init.specs.Back.{Answer, number_in, place_in, count_in}
use Rattle.init.specs.Write.{Writing}
use Rattle.init.specs.Write.Writing.{wrote, refused}
use Rattle.init.specs.Writes.{Page}

-- number, the word at fault, bytes written; the message
pub record Made : Type 0 where
  pub number : ℕ
  pub place : ℕ
  pub count : ℕ
  pub message : List ℕ

abbrev pub made : (number place count : ℕ) → List ℕ → Made
made number place count message = record { number = number; place = place; count = count; message = message }

abbrev pub made_is : Answer → List ℕ → Made
made_is a m = made (number_in a) (place_in a) (count_in a) m

-- what is written is at the message's front, and zeros behind; on a refusal all is zero
unfoldable pub write_back : (room : ℕ) → Writing → Made
write_back room (wrote used out) = made accepted 0 (length out) (out ++ replicate (room - length out) 0)
write_back room (refused e at) = made e at 0 (replicate room 0)

-- a page that had room, and one that had not
unfoldable pub ended : List ℕ → Option ℕ → Made
ended m (Some at) = made accepted 0 at m
ended m None = write_back (length m) (refused payload_room 0)

-- the end of the items, of which some words were used, on a page
unfoldable pub Closed : (n used : ℕ) → Page → Made → Type 0
Closed n used p r =
    r
    ≡ cond (ltb used n) (write_back (length p.bytes) (refused no_reading (init_words + used))) (ended p.bytes p.at)
