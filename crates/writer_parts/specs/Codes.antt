-- What the functions of an element's codes promise: what there is to choose from, both codes as a note, and the walk past them.
use Rattle.std.specs.Prelude.{Result, Ok, Err}
use Rattle.numbers.specs.declared.refusal.Fault.{Fault}
use Rattle.numbers.specs.Refused.{number_of}
use Rattle.std.specs.Prelude.{ℕ, ◌+◌, ◌-◌, ◌<◌, ◌≤◌, ◌≡◌, true, false, List, length, get_or}
use Rattle.wire.specs.Res.{fault}
use Rattle.wire.specs.declared.Coded.{Coded}
use Rattle.table.specs.Words.{types_in, particles_in}
use Rattle.table.specs.Views.{Listed}
use Rattle.table.specs.declared.answers.TypeList.{TypeList}
use Rattle.model.specs.Model.{Types, chosen, codes}
use Rattle.model.specs.Write.{Bare, Out, refused, place_in, standing, codes_out, casts}
use Rattle.model.specs.declared.Choices.{Choices}
use Rattle.writer_parts.specs.declared.Spot.{Spot}
use Rattle.writer_parts.specs.Notes.{Gives, Spelling}
use Rattle.writer_parts.specs.Walk.{events_in, events_at, between, Ready}

-- who looks for a row's substitutes has a row of the table; who looks for nothing, for neither
pub record Rowed (l : List ℕ) (c : Choices) (row : ℕ) : Type 0 where
  pub known : c.substitutes ≡ true → row < particles_in l
  pub neither : c.any ≡ false → (c.substitutes ≡ false) × (c.derived ≡ false)

-- of the types of a list as the code has it: number q of them, counted from 1, or t; where p stands, counted from 1; the same with t before them
pub record Chosen (l : List ℕ) (s : TypeList) (t q r : ℕ) : Type 0 where
  pub is : (types : List ℕ) → Listed l types s → r ≡ chosen t types q

pub record Placed (l : List ℕ) (s : TypeList) (p r : ℕ) : Type 0 where
  pub is : (types : List ℕ) → Listed l types s → r ≡ place_in p types

pub record Stands (l : List ℕ) (s : TypeList) (t p r : ℕ) : Type 0 where
  pub is : (types : List ℕ) → Listed l types s → r ≡ standing p t types

-- both codes, of few bits, for an effective type of the table
pub record Spelled (l : List ℕ) (y : Types) (type k : ℕ) (c : Coded) : Type 0 where
  pub gives : Gives 22 (codes_out y type k) c
  pub known : type < types_in l

abbrev pub SpellsIs : List ℕ → Types → (type k : ℕ) → Spelling → Type 0
SpellsIs l y type k (Err e) = codes_out y type k ≡ fault (number_of e)
SpellsIs l y type k (Ok c) = Spelled l y type k c

pub record Spells (l : List ℕ) (y : Types) (type k : ℕ) (r : Spelling) : Type 0 where
  pub is : SpellsIs l y type k r

-- past the codes of an element from the cursor c on: whatever comes of its effective type, the codes' bits and the events left
pub record Went (l L X : List ℕ) (y : Types) (c : Spot) (N : List ℕ) (type : ℕ) (e : Spot) (M : List ℕ) : Type 0 where
  pub out : (k : ℕ → List ℕ → List Bare → Out) → casts (codes y) y (events_at L c.event) k ≡ k type (between X M c e) (events_at L e.event)
  pub known : type < types_in l
  pub counts : e.bits ≡ c.bits + length (between X M c e)
  pub onward : c.event ≤ e.event
  pub texts : e.used ≡ c.used
  pub ready : Ready L X M e
  pub before : (j : ℕ) → j < c.event → get_or M j 0 ≡ get_or N j 0

-- or a refusal, whatever would have come
pub record Stopped (L : List ℕ) (y : Types) (c : Spot) (number at : ℕ) : Type 0 where
  pub out : (k : ℕ → List ℕ → List Bare → Out) → casts (codes y) y (events_at L c.event) k ≡ refused number (events_in L - at)
  pub inside : at ≤ events_in L

abbrev pub Cast : Type 0
Cast = Result (ℕ × Spot) (Fault ℕ)

abbrev pub CastsIs : (l L X : List ℕ) → Types → Spot → List ℕ → Cast → List ℕ → Type 0
CastsIs l L X y c N (Ok (type, e)) M = Went l L X y c N type e M
CastsIs l L X y c N (Err f) M = Stopped L y c (number_of f.why) f.at

-- table, words, texts, what there is to choose from, cursor and notes before, answer, notes after
pub record Casts (l L X : List ℕ) (y : Types) (c : Spot) (N : List ℕ) (r : Cast) (M : List ℕ) : Type 0 where
  pub is : CastsIs l L X y c N r M
