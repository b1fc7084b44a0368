-- THE READING of a start-up message: its words, or a refusal with its place. Refusals, their order and their places are here.
use Rattle.std.specs.Prelude.{ℕ, ◌+◌, min, cond, List, [], ◌++◌, ltb, leb, length, set, replicate}
use Rattle.std.proofs.lemmas.List.Edits.{sets}
use Rattle.numbers.specs.Refusal.{event_room, left_over}
use Rattle.numbers.specs.Limit.{most_message, init_words}
use Rattle.wire.specs.Res.{Res, got, fault}
use Rattle.init.specs.declared.Slot.{Slot}
use Rattle.init.specs.declared.Slot.TheVariants.{Init, Codecs}
use Rattle.init.specs.Items.{item_at, words}
use Rattle.init.specs.Plan.{Plan, plan}
use Rattle.init.specs.Plan.Plan.{done, item}

-- the words of init and of codecs, and the place past the message; or number and place of a refusal. Places are bytes
pub data Reading : Type 0 where
  given : (init codecs : List ℕ) (at : ℕ) → Reading
  refused : (number at : ℕ) → Reading

unfoldable pub on_item : {A : Type 0} → Res A → ℕ → (A → Reading) → Reading
on_item (got a) at f = f a
on_item (fault e) at f = refused e at

-- an item's words where they stand: in init; or next in codecs, where there is room
unfoldable pub store : Slot → (room at : ℕ) (ws init codecs : List ℕ) → (List ℕ → List ℕ → Reading) → Reading
store (Init i) room at ws init codecs f = f (sets init i ws) codecs
store Codecs room at ws init codecs f = cond (leb (length codecs + length ws) room) (f init (codecs ++ ws)) (refused event_room at)

unfoldable pub read : (s : List ℕ) (wall room : ℕ) → Plan → (at : ℕ) (init codecs : List ℕ) → Reading
read s wall room done at init codecs = given init codecs at
read s wall room (item i slot k) at init codecs =
    on_item (item_at i s wall at) at
    (λ r. store slot room at (words i r.0 r.1) init codecs (λ init' codecs'. read s wall room (k r.0) r.2 init' codecs'))

-- the bytes past most_message are not read
abbrev pub wall_of : List ℕ → ℕ
wall_of s = min (length s) most_message

-- at the end: no byte is left; word 7 counts the words of codecs
unfoldable pub ended : ℕ → Reading → Reading
ended n (given init codecs at) = cond (ltb at n) (refused left_over at) (given (set init 7 (length codecs)) codecs at)
ended n (refused e at) = refused e at

-- a message, and the words that codecs has room for
unfoldable pub init_read : List ℕ → ℕ → Reading
init_read s room = ended (length s) (read s (wall_of s) room plan 0 (replicate init_words 0) [])
