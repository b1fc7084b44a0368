-- What the functions that read promise: words stored, and a reading that goes on from where it is.
use Rattle.std.specs.Prelude.{ℕ, ◌+◌, ◌-◌, ◌*◌, ◌/◌, ◌≤◌, ◌<◌, ◌≡◌, cond, List, [], ◌∷◌, ◌++◌, leb, length, drop, Result, Ok, Err, Option, Some, None}
use Rattle.std.proofs.lemmas.List.Edits.{sets}
use Rattle.buffers.specs.Bytes.{bytes_of}
use Rattle.numbers.specs.Limit.{init_words}
use Rattle.numbers.specs.declared.refusal.Refusal.{Refusal}
use Rattle.numbers.specs.declared.refusal.Refusal.TheVariants as refusal
use Rattle.numbers.specs.declared.refusal.Fault.{Fault}
use Rattle.numbers.specs.Refused.{number_of}
use Rattle.init.specs.declared.Slot.{Slot}
use Rattle.init.specs.declared.Slot.TheVariants as slot
use Rattle.init.specs.declared.Phase.TheVariants.{Profile}
use Rattle.init.specs.declared.items.Words.{Words}
use Rattle.init.specs.declared.items.Words.TheVariants.{One, Two}
use Rattle.init.specs.declared.reading.State.{State}
use Rattle.init.specs.Plan.{plan}
use Rattle.init.specs.Phases.{plan_of, slot_of, rest_of, reach, rank, spare}
use Rattle.init.specs.Promises.{Follows}
use Rattle.init.specs.Read.{Reading, read}
use Rattle.init.specs.Read.Reading.{given, refused}

abbrev pub words_in : Words → List ℕ
words_in (One a) = a ∷ []
words_in (Two a b) = a ∷ b ∷ []

abbrev pub width_in : Words → ℕ
width_in (One a) = 1
width_in (Two a b) = 2

unfoldable pub slot_index : Slot → ℕ
slot_index (slot.Init i) = i
slot_index slot.Codecs = 0

-- the words of codecs used, init and codecs' bytes; or no room, and then both are as they were
pub data Store : Type 0 where
  stored : (used : ℕ) (init codecs : List ℕ) → Store
  full : (init codecs : List ℕ) → Store

unfoldable pub store_is : Option ℕ → (init codecs : List ℕ) → Store
store_is (Some u) init codecs = stored u init codecs
store_is None init codecs = full init codecs

unfoldable pub store_of : Slot → (ws : List ℕ) (used : ℕ) (init codecs : List ℕ) → Store
store_of (slot.Init i) ws used init codecs = stored used (sets init i ws) codecs
store_of slot.Codecs ws used init codecs =
    cond (leb (used + length ws) (length codecs / 4)) (stored (used + length ws) init (sets codecs (4 * used) (bytes_of ws))) (full init codecs)

-- an item's words stored and the state behind it, or no room for them
abbrev pub Carried : Slot → (ws : List ℕ) (st : State) (v q : ℕ) (init codecs : List ℕ) → Result State Refusal → (init' codecs' : List ℕ) → Type 0
Carried slot ws st v q init codecs (Ok st') init' codecs' =
    (st'.at ≡ q)
    × (stored st'.used init' codecs' ≡ store_of slot ws st.used init codecs)
    × Follows (rest_of st.phase v) init_words (rank st.phase + spare (slot_of st.phase)) st'.phase
Carried slot ws st v q init codecs (Err e) init' codecs' = (e ≡ refusal.EventRoom) × (full init' codecs' ≡ store_of slot ws st.used init codecs)

-- A reading whose answer is what a state leads to: over the buffer b, which was lent for codecs, the words read so far stand.
pub record Reads (s b : List ℕ) (wall : ℕ) (answer : Reading) (st : State) (init codecs : List ℕ) : Type 0 where
  pub words : List ℕ
  pub count : length words ≡ st.used
  pub stands : codecs ≡ bytes_of words ++ drop (4 * st.used) b
  pub room : 4 * st.used ≤ length b
  pub few : st.used ≤ 2 * st.at
  pub within : st.at ≤ wall
  pub comes : answer ≡ read s wall (length b / 4) (plan_of st.phase) st.at init words

-- One item on: a state with the same answer, nearer to the end; or the answer is a refusal here.
pub record Gone (s b : List ℕ) (wall : ℕ) (answer : Reading) (st st' : State) (init codecs : List ℕ) : Type 0 where
  pub reads : Reads s b wall answer st' init codecs
  pub lies : reach st'.phase ≤ init_words
  pub falls : wall - st'.at + rank st'.phase < wall - st.at + rank st.phase

abbrev pub Turned : (s b : List ℕ) (wall : ℕ) (answer : Reading) (st : State) → Result State Refusal → (init codecs : List ℕ) → Type 0
Turned s b wall answer st (Ok st') init codecs = Gone s b wall answer st st' init codecs
Turned s b wall answer st (Err e) init codecs = answer ≡ refused (number_of e) st.at

abbrev pub start : State
start = record { phase = Profile; at = 0; used = 0 }

-- the reading of all items, with room for as many words as the buffer b holds
abbrev pub whole : (s b : List ℕ) (wall : ℕ) (init : List ℕ) → Reading
whole s b wall init = read s wall (length b / 4) plan 0 init []

-- All items read: the answer has these words, which stand in codecs over b; or it is this refusal.
pub record Done (b : List ℕ) (wall : ℕ) (answer : Reading) (at used : ℕ) (init codecs : List ℕ) : Type 0 where
  pub words : List ℕ
  pub count : length words ≡ used
  pub stands : codecs ≡ bytes_of words ++ drop (4 * used) b
  pub room : 4 * used ≤ length b
  pub few : used ≤ 2 * at
  pub within : at ≤ wall
  pub comes : answer ≡ given init words at

pub record Stopped (wall : ℕ) (answer : Reading) (e at : ℕ) : Type 0 where
  pub within : at ≤ wall
  pub comes : answer ≡ refused e at

abbrev pub Ran : (b : List ℕ) (wall : ℕ) (answer : Reading) → Result State (Fault ℕ) → (init codecs : List ℕ) → Type 0
Ran b wall answer (Ok st) init codecs = Done b wall answer st.at st.used init codecs
Ran b wall answer (Err f) init codecs = Stopped wall answer (number_of f.why) f.at
