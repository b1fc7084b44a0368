-- What one who holds less may say of what another read: the outermost newly held elements of the other's tree, in order; the tree with
-- each of them replaced by one Blank of the same bit count, its texts left out; and the first of them that has no length.
use Rattle.std.specs.Prelude.{ℕ, ◌+◌, List, [], ◌∷◌, ◌++◌, Bool, false, cond}
use Rattle.std.proofs.Math.Option.{Option, none, some}
use Rattle.numbers.specs.Refusal.{not_held}
use Rattle.numbers.specs.Kind as kinds
use Rattle.model.specs.Model.{event, Mark, Nodes, Path, Answer, tree_bits}
use Rattle.model.specs.Model.Nodes.{leaf, node}
use Rattle.model.specs.Model.Answer.{given, refused}

-- held by the second and not by the first
unfoldable pub newly : (ℕ → Bool) → (ℕ → Bool) → ℕ → Bool
newly held held' t = cond (held t) false (held' t)

module _ (new : ℕ → Bool) where
  -- each with the path of the elements around it
  unfoldable pub outermost : Path → Nodes → List (Mark × Path)
  outermost π Nodes.none = []
  outermost π (leaf at e ts r) = outermost π r
  outermost π (node m i r) = cond (new m.type) ((m, π) ∷ []) (outermost (m.name ∷ π) i) ++ outermost π r

  -- all bits of an element: those of its Start and of all that is inside it
  unfoldable pub replaced : Nodes → Nodes
  replaced Nodes.none = Nodes.none
  replaced (leaf at e ts r) = leaf at e ts (replaced r)
  replaced (node m i r) =
      cond (new m.type) (leaf m.at (event kinds.blank m.name m.type (m.bits + tree_bits i)) [] (replaced r)) (node m (replaced i) (replaced r))

-- the first of some elements that has no length
unfoldable pub first_bare : List (Mark × Path) → Option (Mark × Path)
first_bare [] = none
first_bare ((m, π) ∷ l) = cond m.coded (first_bare l) (some (m, π))

-- 9 at that one; else the tree with all of them replaced
unfoldable pub said : Option (Mark × Path) → Nodes → ℕ → Answer
said none ns q = given ns q
said (some (m, π)) ns q = refused not_held m.at π
