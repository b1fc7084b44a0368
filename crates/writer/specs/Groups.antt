-- What a row comes to, as the code finds it: an element that is next, or rows.
use Rattle.std.specs.Prelude.{ℕ, ◌+◌, ◌<◌, ◌≤◌, List, Result, Ok, Err}
use Rattle.numbers.specs.declared.refusal.Fault.{Fault}
use Rattle.table.specs.Words.{types_in, particles_in}
use Rattle.table.specs.declared.answers.Particle.{Particle}
use Rattle.table.specs.declared.answers.Particle.TheVariants as row·is
use Rattle.model.specs.Modes.{types_by, row_choices}
use Rattle.model.specs.declared.Mode.{Mode}
use Rattle.model.specs.Write.{Bare, Out}
use Rattle.writer_parts.specs.declared.Spot.{Spot}
use Rattle.writer_parts.specs.Walk.{Judgement, Ready, Walks}
use Rattle.writer.specs.Meaning.{RightFor, Within, Owned, element·, choose·, occur·, rounds·}
use Rattle.writer.specs.declared.groups.Aim.{Aim}
use Rattle.writer.specs.declared.groups.Aim.TheVariants.{Element, Rows}
use Rattle.writer.specs.declared.groups.Run.{Run}
use Rattle.writer.specs.declared.groups.Target.{Target}

-- what a row names is in the table
abbrev pub Fits : List ℕ → Particle → Type 0
Fits t (row·is.Element name ty row) = (ty < types_in t) × Owned t row
Fits t (row·is.Sequence first n) = Within t first 1 n
Fits t (row·is.Choice first n) = first + n ≤ particles_in t
Fits t (row·is.Occurs child least most) = child < particles_in t

-- what is left, from a cursor on: whatever it comes to, the whole comes to
pub record Onward (L X : List ℕ) (f : List Bare → List ℕ → Out) (c : Spot) (N : List ℕ) (g : List Bare → List ℕ → Out) (e : Spot) (M : List ℕ) : Type 0 where
  pub ready : Ready L X M e
  pub on : (r : Judgement) (K : List ℕ) → Walks L X g e M r K → Walks L X f c N r K

module _ (t : List ℕ) (mode : Mode) where
  -- a row as the code has it, where so many rows may be opened inside it
  unfoldable pub given· : ℕ → Particle → List Bare → List ℕ → Out
  given· d (row·is.Element name ty row) M X = element· t mode d name (types_by t (row_choices mode.choices row) ty row) M X
  given· d (row·is.Sequence first n) M X = rounds· t mode d first 1 n M X
  given· d (row·is.Choice first n) M X = choose· t mode d first n M X
  given· d (row·is.Occurs child least most) M X = occur· t mode d child least most M X

  -- an element that is next, and rows
  unfoldable pub target· : Target → List Bare → List ℕ → Out
  target· x M X = element· t mode x.depth x.name (types_by t (row_choices mode.choices x.row) x.t x.row) M X

  unfoldable pub run· : ℕ → Run → List Bare → List ℕ → Out
  run· d x M X = rounds· t mode d x.first x.step x.count M X

  -- an answer, as what is left of a meaning
  abbrev pub Aimed : (L X : List ℕ) → ℕ → (List Bare → List ℕ → Out) → Spot → List ℕ → Aim → List ℕ → Type 0
  Aimed L X d f c N (Element x) M = (x.t < types_in t) × (Owned t x.row) × (x.depth ≤ d) × Onward L X f c N (target· x) x.cursor M
  Aimed L X d f c N (Rows x) M = (Within t x.first x.step x.count) × Onward L X f c N (run· d x) x.cursor M

  -- the same, or refused
  abbrev pub Reached : (L X : List ℕ) → ℕ → (List Bare → List ℕ → Out) → Spot → List ℕ → Result Aim (Fault ℕ) → List ℕ → Type 0
  Reached L X d f c N (Ok a) M = Aimed L X d f c N a M
  Reached L X d f c N (Err e) M = Walks L X f c N (Err e) M

-- CONTRACTS, for every mode that the table knows. Of rows
pub record Narrows (t : List ℕ) (d : ℕ) (x : Run) (r : Aim) : Type 0 where
  pub is : (mode : Mode) → RightFor t mode → (L X N : List ℕ) → Ready L X N x.cursor → Aimed t mode L X d (run· t mode d x) x.cursor N r N

-- of a row
pub record Aims (t L X : List ℕ) (d : ℕ) (p : Particle) (c : Spot) (N : List ℕ) (r : Result Aim (Fault ℕ)) (M : List ℕ) : Type 0 where
  pub is : (mode : Mode) → RightFor t mode → Reached t mode L X d (given· t mode d p) c N r M
