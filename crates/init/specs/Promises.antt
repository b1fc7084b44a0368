-- What the functions promise, besides equations.
use Rattle.std.specs.Prelude.{ℕ, ◌≤◌, ◌<◌, ◌≡◌}
use Rattle.init.specs.declared.Phase.{Phase}
use Rattle.init.specs.Plan.{Plan}
use Rattle.init.specs.Phases.{plan_of, reach, rank}

-- the phase r comes behind the number v of an item
pub record Follows (p : Plan) (words ranks : ℕ) (r : Phase) : Type 0 where
  pub comes : plan_of r ≡ p
  pub lies : reach r ≤ words
  pub falls : rank r < ranks
