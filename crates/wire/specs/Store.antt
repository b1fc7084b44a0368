-- What a store of a word over bytes does to a buffer.
use Rattle.std.specs.Prelude.{ℕ, ◌+◌, ◌*◌, ◌<◌, ◌≤◌, ◌≡◌, List, get_or}
use Rattle.wire.specs.Bits.{bit_at, num}

-- the bytes t are s with k bytes from i on that are the number y, and with nothing else changed
pub record Stored (s t : List ℕ) (i k y : ℕ) : Type 0 where
  pub here : num (bit_at t) (8 * i) (8 * k) ≡ y
  pub below : (j : ℕ) → j < i → get_or t j 0 ≡ get_or s j 0
  pub above : (j : ℕ) → i + k ≤ j → get_or t j 0 ≡ get_or s j 0
