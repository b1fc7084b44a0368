-- A walk's answer as a step with the path that is to be told.
use Rattle.std.specs.Prelude.{ℕ, ◌≡◌, List, ◌∷◌, Result, Ok, Err}
use Rattle.model.specs.Model.{Answer}
use Rattle.reader_parts.specs.Out.{Out, Step, step_view, outcome}
use Rattle.reader_parts.specs.Paths.{back}
use Rattle.reader_parts.specs.declared.Cursor.{Cursor}
use Rattle.reader.specs.declared.refusal_path.Halt.{Halt}
use Rattle.reader.specs.declared.refusal_path.Halt.TheVariants.{Untold, Told}

-- what a walk answers
abbrev pub Walk : Type 0
Walk = Result Cursor Halt

abbrev pub walks : Step → Walk
walks (Ok c) = Ok c
walks (Err e) = Err (Untold e)

abbrev pub step_of : Walk → Step
step_of (Ok c) = Ok c
step_of (Err (Untold e)) = Err e
step_of (Err (Told e k)) = Err e

-- the path of a walk in an element whose path is π, by the names N that were told
abbrev pub path_of : Walk → List ℕ → List ℕ → List ℕ
path_of (Ok c) π N = π
path_of (Err (Untold e)) π N = π
path_of (Err (Told e k)) π N = back N k

abbrev pub view : Walk → List ℕ → List ℕ → List ℕ → List ℕ → Out
view w π N E T = step_view (step_of w) (path_of w π N) E T

-- the walk r outside the element of a name says what w says inside it
pub record Named (name : ℕ) (π : List ℕ) (w : Walk) (N : List ℕ) (r : Walk) (N' : List ℕ) : Type 0 where
  pub says : (o : Answer) (c : Cursor) (E T E' T' : List ℕ) → view w (name ∷ π) N E' T' ≡ outcome o c (name ∷ π) E T → view r π N' E' T' ≡ outcome o c π E T
