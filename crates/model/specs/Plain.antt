-- Trees without a Blank.
use Rattle.std.specs.Prelude.{◌≡◌, List, [], ◌∷◌}
use Rattle.model.specs.Model.{Event, Nodes}
use Rattle.model.specs.Model.Nodes.{none, leaf, node}

abbrev pub NoBlank : List Event → Type 0
NoBlank [] = Unit
NoBlank (e ∷ L) = (e.kind ≡ 7 → ⊥) × NoBlank L

abbrev pub Plain : Nodes → Type 0
Plain none = Unit
Plain (leaf at e ts r) = (e.kind ≡ 7 → ⊥) × Plain r
Plain (node m i r) = Plain i × Plain r
