-- What was written: a tree, its events, texts and bits.
use Rattle.std.specs.Prelude.{ℕ, ◌<◌, ◌^◌, ◌≡◌, Bool, List, length}
use Rattle.model.specs.Model.{Plan, Nodes}
use Rattle.model.specs.Items.{Lengths}
use Rattle.model.specs.Grammar.{Is}
use Rattle.model.specs.Write.{Bare}
use Rattle.theorems.specs.Lists.{lists, spells}
use Rattle.model.specs.Plain.{Plain}

-- of the events M and the texts T the bits w were written, and N and U were left
pub record Written (mode : Lengths) (held : ℕ → Bool) (P : Plan) (M : List Bare) (T : List ℕ) (w : List ℕ) (N : List Bare) (U : List ℕ) (at : ℕ) : Type 0 where
  pub tree : Nodes
  pub is : Is mode held P at tree w
  pub plain : Plain tree
  pub list : M ≡ lists tree N
  pub text : T ≡ spells tree U

module _ (mode : Lengths) (held : ℕ → Bool) where
  abbrev pub Writes : Plan → List Bare → List ℕ → List ℕ → List Bare → List ℕ → Type 0
  Writes P M T w N U = length w < 2 ^ 32 → (at : ℕ) → Written mode held P M T w N U at
