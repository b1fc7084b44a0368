-- What judging a row tells where two of its words are only joined to those of the rows before it: one that must be small, one that must be 0.
use Rattle.std.specs.Prelude.{ℕ, ◌≤◌, ◌≡◌}
use Rattle.numbers.specs.Limit.{most_name}
use Rattle.table.specs.First.{Verdict}
use Rattle.table.specs.First.Verdict.{right}

-- a joint never falls, and where both are right the row is
pub record Judged (small zeros small' zeros' : ℕ) (row : Verdict) : Type 0 where
  pub small_kept : small ≤ small'
  pub zeros_kept : zeros ≤ zeros'
  pub told : small' ≤ most_name → zeros' ≡ 0 → row ≡ right
