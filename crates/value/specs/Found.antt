-- What it is for a simple value to be found at a place.
use Rattle.std.specs.Prelude.{ℕ, ◌≤◌, List}
use Rattle.wire.specs.At.{At}
use Rattle.value.specs.Simple.{Simple, SimpleIs}

-- what was read, and what it is
pub record FoundSimple (b : ℕ → ℕ) (s : Simple) (wall at v : ℕ) (ts : List ℕ) (q : ℕ) : Type 0 where
  pub bits : List ℕ
  pub is : SimpleIs s v ts bits
  pub stands : At b at bits q
  pub within : q ≤ wall
