-- The ones that a vluimsbf5 begins with in a window of bits, and its groups there.
use Rattle.std.specs.Prelude.{ℕ, ◌+◌, ◌-◌, ◌*◌, ◌/◌, ◌%◌, ◌^◌, ◌<◌, ◌≤◌, ◌≡◌}

-- of the eight bits y the first n are ones, and if there is one after them it is a zero
pub record Leading (y n : ℕ) : Type 0 where
  pub few : n ≤ 8
  pub ones : y / 2 ^ (8 - n) ≡ 2 ^ n - 1
  pub then : n < 8 → y / 2 ^ (7 - n) % 2 ≡ 0

-- the n + 1 groups of four bits that follow n ones and a zero, out of the 57 bits x
unfoldable pub cut_groups : ℕ → ℕ → ℕ
cut_groups x n = x / 2 ^ (57 - 5 * (n + 1)) % 2 ^ (4 * (n + 1))
