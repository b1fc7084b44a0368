-- When a reading and its bits are a lawful code.
use Rattle.std.specs.Prelude.{ℕ, ◌<◌, ◌≤◌, ◌≡◌, List}
use Rattle.wire.specs.Res.{Res, got, Ensures}
use Rattle.wire.specs.At.{At}

-- a reading below a wall: value and place past it
abbrev pub Reading : Type 0
Reading = (ℕ → ℕ) → ℕ → ℕ → Res (ℕ × ℕ)

abbrev pub Binary : (ℕ → ℕ) → Type 0
Binary b = (i : ℕ) → b i < 2

-- a code that stands somewhere below the wall
pub record Stands (b : ℕ → ℕ) (F : Type 0) (w : List ℕ) (wall at p : ℕ) : Type 0 where
  pub fits : F
  pub stands : At b at w p
  pub within : p ≤ wall

-- a code: its reading, which values it has, and their bits
pub record Lawful (rd : Reading) (F : ℕ → Type 0) (bits : ℕ → List ℕ) : Type 0 where
  pub found : (b : ℕ → ℕ) → Binary b → (wall at : ℕ) → Ensures (rd b wall at) (λ r. Stands b (F r.0) (bits r.0) wall at r.1)
  pub reads : (b : ℕ → ℕ) (wall at v p : ℕ) → F v → At b at (bits v) p → p ≤ wall → rd b wall at ≡ got (v, p)
  -- no bit at the wall or past it is looked at, whatever the answer
  pub below : (b c : ℕ → ℕ) (wall at : ℕ) → ((i : ℕ) → i < wall → b i ≡ c i) → rd b wall at ≡ rd c wall at
