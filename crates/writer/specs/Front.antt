-- What is judged before the walk and after it.
use Rattle.std.specs.Prelude.{ℕ, ◌+◌, ◌/◌, ◌≤◌, min, ◌≡◌, List, ◌∷◌, length, Result, Ok, Err}
use Rattle.numbers.specs.Limit.{most_payload}
use Rattle.numbers.specs.declared.refusal.Refusal.{Refusal}
use Rattle.numbers.specs.declared.refusal.Fault.{Fault}
use Rattle.numbers.specs.Refused.{number_of}
use Rattle.wire.specs.Res.{got, fault}
use Rattle.table.specs.Rows.{table_of}
use Rattle.model.specs.Items.{Mode}
use Rattle.model.specs.Modes.{mode_is, Choosing}
use Rattle.model.specs.declared.Mode as mode_t
use Rattle.model.specs.Write.{wrote}
use Rattle.model.specs.Pack.{pack}
use Rattle.model.specs.Entries.{Entered, Shaped}
use Rattle.model.specs.Whole.{Made, made, unmade, mode_byte, mode_asked, roomed, spent, writing}
use Rattle.writer_parts.specs.declared.Spot.{Spot}
use Rattle.writer_parts.specs.Walk.{events_in, events_at, texts_at}

-- a mode by its number as the code has it, knowing what a table has to choose from; and that the number is a mode's
pub record Way (t : List ℕ) (party number : ℕ) (m : mode_t.Mode) : Type 0 where
  pub is : mode_asked (table_of t).derivations number ≡ got (mode_is m)
  pub choosing : Choosing t m.choices
  pub party_is : m.party ≡ party

abbrev pub ModedIs : List ℕ → (party number : ℕ) → Result mode_t.Mode Refusal → Type 0
ModedIs t party number (Ok m) = Way t party number m
ModedIs t party number (Err e) = mode_asked (table_of t).derivations number ≡ fault (number_of e)

pub record Moded (t : List ℕ) (party number : ℕ) (r : Result mode_t.Mode Refusal) : Type 0 where
  pub is : ModedIs t party number r

-- nothing applies: a known root, a party, a mode, a list of whole events
pub record Fine (t : List ℕ) (party name ty number : ℕ) (L : List ℕ) (m : mode_t.Mode) : Type 0 where
  pub enters : Entered t party name ty
  pub way : Way t party number m
  pub shape : Shaped L

abbrev pub FrontIs : List ℕ → ℕ → ℕ → ℕ → ℕ → List ℕ → Result mode_t.Mode (Fault ℕ) → Type 0
FrontIs t party name ty number L (Ok m) = Fine t party name ty number L m
FrontIs t party name ty number L (Err f) = (X : List ℕ) (room : ℕ) → writing t party name ty number L X room ≡ unmade (number_of f.why) f.at

pub record Fronted (t : List ℕ) (party name ty number : ℕ) (L : List ℕ) (r : Result mode_t.Mode (Fault ℕ)) : Type 0 where
  pub is : FrontIs t party name ty number L r

-- after the walk, which gave the bits w
abbrev pub ends : List ℕ → List ℕ → Spot → ℕ → Mode → List ℕ → Made
ends L X c room m w = spent (events_in L) (wrote w (events_at L c.event) (texts_at X c.used)) (roomed room m)

pub record Whole (L X : List ℕ) (c : Spot) (room : ℕ) : Type 0 where
  pub over : c.event ≡ events_in L
  pub spent_all : c.used ≡ length X
  pub fits : 1 + (c.bits + 7) / 8 ≤ min room most_payload
  pub gives : (w : List ℕ) (m : Mode) → c.bits ≡ length w → ends L X c room m w ≡ made (mode_byte m ∷ pack w) (8 + length w)

abbrev pub SettledIs : List ℕ → List ℕ → Spot → ℕ → Result Unit (Fault ℕ) → Type 0
SettledIs L X c room (Ok u) = Whole L X c room
SettledIs L X c room (Err f) = (w : List ℕ) (m : Mode) → c.bits ≡ length w → ends L X c room m w ≡ unmade (number_of f.why) f.at

pub record Settled (L X : List ℕ) (c : Spot) (room : ℕ) (r : Result Unit (Fault ℕ)) : Type 0 where
  pub is : SettledIs L X c room r
