-- One meaning for each function of the walk, by the table's words and the mode as the code has them.
use Rattle.std.specs.Prelude.{ℕ, zero, suc, ◌+◌, ◌*◌, ◌^◌, ◌<◌, ◌≡◌, Bool, cond, List, [], ltb, eqb}
use Rattle.numbers.specs.Limit.{parties}
use Rattle.numbers.specs.declared.refusal.Refusal.TheVariants as refusal
use Rattle.numbers.specs.declared.refusal.Fault.{Fault}
use Rattle.table.specs.First.Verdict.{right}
use Rattle.table.specs.Valid.{verdict}
use Rattle.table.specs.Words.{types_in, particles_in}
use Rattle.table.specs.Rows.{Table, table_of, held_of}
use Rattle.table.specs.Views.{row_is}
use Rattle.table.specs.declared.answers.Particle.{Particle}
use Rattle.table.specs.declared.answers.Particle.TheVariants.{Element}
use Rattle.model.specs.Model.{Types, table_in}
use Rattle.model.specs.Model.Item.{picked, counted}
use Rattle.model.specs.Items.{Lengths}
use Rattle.model.specs.Modes.{lengths_is, types_by, Choosing, no_row, row_choices}
use Rattle.model.specs.declared.Mode.{Mode}
use Rattle.model.specs.Write.{Bare, Out, wrote, along, too_deep, element_out}
use Rattle.model.specs.WriteSteps.{item_then, particle_out, rounds_out, content_out, inside_out}
use Rattle.writer_parts.specs.Walk.{events_in}

-- a table without fault, and a mode that knows what this table has to choose from; rows within it
pub record Right (t : List ℕ) (mode : Mode) : Type 0 where
  pub is : verdict t ≡ right
  pub choosing : Choosing t mode.choices

-- the same, for a party that has marks
pub record RightFor (t : List ℕ) (mode : Mode) : Type 0 where
  pub is : verdict t ≡ right
  pub choosing : Choosing t mode.choices
  pub party_known : mode.party < parties

pub record Within (t : List ℕ) (first step n : ℕ) : Type 0 where
  pub each : (j : ℕ) → j < n → first + step * j < particles_in t
  pub short : step < 2

-- a row of the table, or none
abbrev pub Owned : List ℕ → ℕ → Type 0
Owned t row = (row ≡ no_row → ⊥) → row < particles_in t

-- a row of the table, or the root, whose type is one of the table's; so many rows
pub record Known (t : List ℕ) (ty i : ℕ) : Type 0 where
  pub root : i ≡ no_row → ty < types_in t
  pub row : Owned t i

pub record Rounds (t : List ℕ) (ty first step n : ℕ) : Type 0 where
  pub each : (j : ℕ) → j < n → Known t ty (first + step * j)
  pub next : (j : ℕ) → j < n → first + step * j + step < 2 ^ 32

-- the row as the code has it
pub record Given (t : List ℕ) (name ty i : ℕ) (p : Particle) : Type 0 where
  pub root : i ≡ no_row → p ≡ Element name ty no_row
  pub row : (i ≡ no_row → ⊥) → row_is p ≡ (table_of t).row i

-- too deep, or no reading where no event is left
unfoldable pub deep_at : List ℕ → ℕ → Fault ℕ
deep_at L i = record { why = cond (ltb i (events_in L)) refusal.Depth refusal.NoReading; at = i }

module _ (t : List ℕ) (mode : Mode) (d : ℕ) where
  -- length coding, and the table as this mode has it
  abbrev lengths : Lengths
  lengths = lengths_is mode.lengths

  -- by the party's marks
  abbrev held : ℕ → Bool
  held = held_of t mode.party

  abbrev T : Table
  T = table_in mode.choices.derived (table_of t)

  unfoldable pub particle· : ℕ → List Bare → List ℕ → Out
  particle· i M X = particle_out lengths held T d (T.row i) M X

  unfoldable pub inside· : ℕ → List Bare → List ℕ → Out
  inside· ty M X = inside_out lengths held T d ty M X

  unfoldable pub content· : ℕ → List Bare → List ℕ → Out
  content· ty M X = content_out lengths held T d (T.content ty) M X

  unfoldable pub element· : ℕ → Types → List Bare → List ℕ → Out
  element· name y M X = element_out lengths held (λ ty N U. inside· ty N U) name y M X

  unfoldable pub choose· : (first count : ℕ) → List Bare → List ℕ → Out
  choose· first count M X = item_then (picked count) M X (λ v N U. particle· (first + v) N U)

  unfoldable pub rounds· : (first step n : ℕ) → List Bare → List ℕ → Out
  rounds· first step n M X = rounds_out lengths held T d n (λ a. T.row (first + step * a)) M X

  unfoldable pub occur· : (child least most : ℕ) → List Bare → List ℕ → Out
  occur· child least most M X = item_then (counted least most) M X (λ v N U. rounds· child 0 v N U)

-- the row of a number, or the root; and so many of them
module _ (t : List ℕ) (mode : Mode) where
  unfoldable pub row· : (d name ty i : ℕ) → List Bare → List ℕ → Out
  row· zero name ty i M X = too_deep M
  row· (suc d) name ty i M X = cond (eqb i no_row) (element· t mode d name (types_by t (row_choices mode.choices no_row) ty no_row) M X) (particle· t mode (suc d) i M X)

  unfoldable pub list· : (d name ty first step n : ℕ) → List Bare → List ℕ → Out
  list· d name ty first step zero M X = wrote [] M X
  list· d name ty first step (suc n) M X = along (row· d name ty first M X) (λ N U. list· d name ty (first + step) step n N U)
