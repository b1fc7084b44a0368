-- A lent payload that holds zeros only.
use Rattle.std.specs.Prelude.{ℕ, ◌≡◌, List, length, replicate}

pub record Zeros (s : List ℕ) : Type 0 where
  pub is : s ≡ replicate (length s) 0
