-- A writing that makes a payload.
use Rattle.std.specs.Prelude.{ℕ, ◌≡◌, List}
use Rattle.model.specs.Whole.{Made, made}

pub record Makes (m : Made) : Type 0 where
  pub payload : List ℕ
  pub bits : ℕ
  pub is : m ≡ made payload bits
