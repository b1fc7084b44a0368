-- What a Start may have.
use Rattle.std.specs.Prelude.{ℕ, ◌≡◌, Bool, true, false}
use Rattle.model.specs.Items.{Lengths}
use Rattle.model.specs.Write.{flag_in}

-- whether a Start may not have this second word
pub record FlagJudged (mode : Lengths) (q : ℕ) (r : Bool) : Type 0 where
  pub wrong : r ≡ true → flag_in mode q ≡ q → ⊥
  pub fine : r ≡ false → flag_in mode q ≡ q
