-- What the functions that write promise.
use Rattle.std.specs.Prelude.{ℕ, ◌+◌, ◌-◌, ◌≤◌, ◌<◌, ◌≡◌, true, false, cond, List, [], ◌∷◌, ltb, length, set, Result, Ok, Err, Option, Some, None}
use Rattle.numbers.specs.declared.refusal.Refusal.TheVariants as refusal
use Rattle.numbers.specs.declared.refusal.Fault.{Fault}
use Rattle.numbers.specs.Refused.{number_of}
use Rattle.numbers.specs.Limit.{init_words, most_vlu8}
use Rattle.init.specs.Items.{Head}
use Rattle.init.specs.Items.Head.{eight, byte, nothing}
use Rattle.init.specs.declared.Item.{Item}
use Rattle.init.specs.declared.Slot.{Slot}
use Rattle.init.specs.Write.{Value, Writing, emit, write, used_by, there_of, content_of, lies_of, bytes_for}
use Rattle.init.specs.declared.writing.Desk.{Desk}
use Rattle.init.specs.declared.Phase.TheVariants.{Profile}
use Rattle.init.specs.Plan.{plan}
use Rattle.init.specs.Phases.{plan_of, slot_of, rest_of, reach, rank, spare}
use Rattle.init.specs.Promises.{Follows}
use Rattle.init.specs.Write.Value.{value, wrong}
use Rattle.init.specs.Write.Writing.{wrote, refused}

-- an item's number by its words; or a refusal, and which of the words is at fault
abbrev pub Values : Type 0
Values = Result ℕ (Fault ℕ)

unfoldable pub value_is : Values → Value
value_is (Ok v) = value v
value_is (Err f) = wrong (number_of f.why) f.at

unfoldable pub value_in : Values → ℕ
value_in (Ok v) = v
value_in (Err f) = 0

-- the greatest number that an item's head holds
unfoldable pub most_of : Head → ℕ
most_of eight = most_vlu8
most_of byte = 255
most_of nothing = 0

-- a buffer, and how far it is written, if no more was to be written than it holds
pub record Page : Type 0 where
  pub bytes : List ℕ
  pub at : Option ℕ

abbrev pub page : List ℕ → Option ℕ → Page
page m at = record { bytes = m; at = at }

-- one byte more, and one after another
unfoldable pub dot : List ℕ → Option ℕ → ℕ → Page
dot m None x = page m None
dot m (Some at) x = cond (ltb at (length m)) (page (set m at x) (Some (at + 1))) (page m None)

unfoldable pub inked : Page → List ℕ → Page
inked p [] = p
inked p (x ∷ l) = inked (dot p.bytes p.at x) l

-- the words of codecs used behind an item's, where they are all there
abbrev pub UsesIs : Slot → Item → (n used : ℕ) → Option ℕ → Type 0
UsesIs slot i n used (Some u) = (u ≡ used_by slot i used) × (u ≤ n) × (there_of slot i n used ≡ true)
UsesIs slot i n used None = there_of slot i n used ≡ false

-- an item with a number: its bytes written and the state behind it, or its stretch passes the bytes given
abbrev pub Put : Item → (given : List ℕ) (st : Desk) (a v u at : ℕ) (m : List ℕ) → Result Desk (Fault ℕ) → List ℕ → Type 0
Put i given st a v u at m (Ok st') m' =
    (lies_of (content_of i) (length given) a v ≡ true)
    × (page m' st'.ink ≡ inked (page m st.ink) (bytes_for i given a v))
    × (st'.used ≡ u)
    × Follows (rest_of st.phase v) init_words (rank st.phase + spare (slot_of st.phase)) st'.phase
Put i given st a v u at m (Err f) m' = (lies_of (content_of i) (length given) a v ≡ false) × (f.why ≡ refusal.TextBytes) × (f.at ≡ at + 1)

-- an item by its words: what follows in the writing is what follows its bytes, or it is a refusal
pub record Sent (i : Item) (given : List ℕ) (st : Desk) (a b u at : ℕ) (m : List ℕ) (st' : Desk) (m' : List ℕ) : Type 0 where
  pub number : ℕ
  pub same : (f : ℕ → List ℕ → Writing) → emit i given a b at f ≡ f number (bytes_for i given a number)
  pub inks : page m' st'.ink ≡ inked (page m st.ink) (bytes_for i given a number)
  pub uses : st'.used ≡ u
  pub follows : Follows (rest_of st.phase number) init_words (rank st.phase + spare (slot_of st.phase)) st'.phase

abbrev pub Worded : Item → (given : List ℕ) (st : Desk) (a b u at : ℕ) (m : List ℕ) → Result Desk (Fault ℕ) → List ℕ → Type 0
Worded i given st a b u at m (Ok st') m' = Sent i given st a b u at m st' m'
Worded i given st a b u at m (Err e) m' = (f : ℕ → List ℕ → Writing) → emit i given a b at f ≡ refused (number_of e.why) e.at

-- A writing whose answer is what a state leads to: the bytes so far are on the page that was the buffer m₀.
pub record Writes (init codecs given m₀ : List ℕ) (answer : Writing) (st : Desk) (m : List ℕ) : Type 0 where
  pub out : List ℕ
  pub inks : page m st.ink ≡ inked (page m₀ (Some 0)) out
  pub comes : answer ≡ write init codecs given (plan_of st.phase) st.used out

pub record Onward (init codecs given : List ℕ) (n : ℕ) (m₀ : List ℕ) (answer : Writing) (st st' : Desk) (m : List ℕ) : Type 0 where
  pub writes : Writes init codecs given m₀ answer st' m
  pub lies : reach st'.phase ≤ init_words
  pub uses : st'.used ≤ n
  pub falls : n - st'.used + rank st'.phase < n - st.used + rank st.phase

abbrev pub Stepped : (init codecs given : List ℕ) (n : ℕ) (m₀ : List ℕ) (answer : Writing) (st : Desk) → Result Desk (Fault ℕ) → List ℕ → Type 0
Stepped init codecs given n m₀ answer st (Ok st') m = Onward init codecs given n m₀ answer st st' m
Stepped init codecs given n m₀ answer st (Err f) m = answer ≡ refused (number_of f.why) f.at

-- the writing of all items
abbrev pub wholly : (init codecs given : List ℕ) → Writing
wholly init codecs given = write init codecs given plan 0 []

abbrev pub desk : Desk
desk = record { phase = Profile; used = 0; ink = Some 0 }

-- All items written: the answer has these bytes, which are on the page; or it is this refusal.
pub record Finished (m₀ : List ℕ) (n : ℕ) (answer : Writing) (used : ℕ) (ink : Option ℕ) (m : List ℕ) : Type 0 where
  pub out : List ℕ
  pub inks : page m ink ≡ inked (page m₀ (Some 0)) out
  pub uses : used ≤ n
  pub comes : answer ≡ wrote used out

abbrev pub Written : (m₀ : List ℕ) (n : ℕ) (answer : Writing) → Result Desk (Fault ℕ) → List ℕ → Type 0
Written m₀ n answer (Ok st) m = Finished m₀ n answer st.used st.ink m
Written m₀ n answer (Err f) m = answer ≡ refused (number_of f.why) f.at
