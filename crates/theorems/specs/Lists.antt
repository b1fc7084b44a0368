-- A list that lists a tree's events, and words that spell it.
use Rattle.std.specs.Prelude.{ℕ, List, ◌∷◌, ◌++◌}
use Rattle.numbers.specs.Kind as kinds
use Rattle.model.specs.Model.{event, end, Nodes, flag_of}
use Rattle.model.specs.Model.Nodes.{none, leaf, node}
use Rattle.model.specs.Write.{Bare, bare}

unfoldable pub lists : Nodes → List Bare → List Bare
lists none M = M
lists (leaf at e ts r) M = bare e ∷ lists r M
lists (node m i r) M = bare (event kinds.start m.name (flag_of m.coded) 0) ∷ lists i (bare end ∷ lists r M)

unfoldable pub spells : Nodes → List ℕ → List ℕ
spells none U = U
spells (leaf at e ts r) U = ts ++ spells r U
spells (node m i r) U = spells i (spells r U)
