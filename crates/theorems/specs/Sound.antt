-- What it is for a reading to be found in its bits.
use Rattle.std.specs.Prelude.{ℕ, ◌≤◌, ◌≡◌, List, ◌++◌}
use Rattle.wire.specs.At.{At}
use Rattle.model.specs.Model.{Nodes, Path, Answer, tree_slots, tree_bytes}
use Rattle.model.specs.Model.Answer.{given, refused}
use Rattle.model.specs.Read.{Room}

-- the path ρ is π with more elements open inside
pub record Extends (π ρ : Path) : Type 0 where
  pub more : Path
  pub is : ρ ≡ more ++ π

-- what was read: bits that R lets stand for it, there, below the wall and in the room
pub record Found (b : ℕ → ℕ) (R : Nodes → List ℕ → Type 0) (r : Room) (wall at : ℕ) (ns : Nodes) (q : ℕ) : Type 0 where
  pub bits : List ℕ
  pub is : R ns bits
  pub stands : At b at bits q
  pub within : q ≤ wall
  pub slots : tree_slots ns ≤ r.slots
  pub bytes : tree_bytes ns ≤ r.bytes

abbrev pub Finds : (ℕ → ℕ) → (Nodes → List ℕ → Type 0) → Room → Path → ℕ → ℕ → Answer → Type 0
Finds b R r π wall at (given ns q) = Found b R r wall at ns q
Finds b R r π wall at (refused n p ρ) = Extends π ρ × (at ≤ p) × (p ≤ wall)
