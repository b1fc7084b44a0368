-- A reply that gives a list.
use Rattle.std.specs.Prelude.{ℕ, ◌≡◌}
use Rattle.model.specs.Model.{Nodes}
use Rattle.model.specs.Items.{Mode}
use Rattle.model.specs.Whole.{Reply, accepted}

pub record Accepts (R : Reply) : Type 0 where
  pub mode : Mode
  pub list : Nodes
  pub bits : ℕ
  pub is : R ≡ accepted mode list bits
