-- The bits of a list of events, added up.
use Rattle.std.specs.Prelude.{ℕ, ◌+◌, List, [], ◌∷◌}
use Rattle.model.specs.Model.{Event}

-- the bits of all events of a list
unfoldable pub total : List Event → ℕ
total [] = 0
total (e ∷ l) = e.bits + total l
