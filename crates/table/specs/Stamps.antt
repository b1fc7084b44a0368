-- What the check of "each once" leans on: a stamp for each type that a table may have.
use Rattle.std.specs.Prelude.{ℕ, ◌+◌, ◌≤◌, ◌<◌, ◌≡◌, List, length, get_or}
use Rattle.numbers.specs.Limit.{most_types}
use Rattle.table.specs.Words.{word_at}

-- each of n words from i on has a stamp
pub record Stamped (l : List ℕ) (i n : ℕ) : Type 0 where
  pub each : (k : ℕ) → k < n → word_at l (i + k) < most_types

-- stamps of which none is over n
pub record Under (n : ℕ) (stamps : List ℕ) : Type 0 where
  pub long : length stamps ≡ most_types
  pub each : (x : ℕ) → get_or stamps x 0 ≤ n
