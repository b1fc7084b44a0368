-- Bits that stand at a place, below a wall.
use Rattle.std.specs.Prelude.{ℕ, ◌+◌, ◌≡◌, List, length}
use Rattle.wire.specs.Bits.{Has}

-- the bits w stand in b from at up to p
pub record At (b : ℕ → ℕ) (at : ℕ) (w : List ℕ) (p : ℕ) : Type 0 where
  pub there : Has b at w
  pub next : p ≡ at + length w
