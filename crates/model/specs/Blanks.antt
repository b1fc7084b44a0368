-- Where a Blank must stand, and what an element is shown as.
use Rattle.std.specs.Prelude.{ℕ, ◌+◌, ◌≡◌, Bool, true, false, List, [], length}
use Rattle.numbers.specs.Kind as kinds
use Rattle.model.specs.Model.{event, Types, Nodes}
use Rattle.model.specs.Model.Nodes.{none, leaf, node}
use Rattle.model.specs.Items.{Lengths, Length, long, HeadIs, CodesAre}
use Rattle.model.specs.Grammar.{opens, cast_in}

-- every Blank of a tree is of a type that is not held, and every element that was opened is of one that is
abbrev pub Exact : (ℕ → Bool) → Nodes → Type 0
Exact held none = Unit {0}
Exact held (leaf at e ts r) = (e.kind ≡ 7 → held e.q ≡ false) × Exact held r
Exact held (node m i r) = (held m.type ≡ true) × Exact held i × Exact held r

-- where an element may come there stands one whose effective type is held, with what its head and its codes say; or a Blank, whose head has a length, of all its bits
pub data Shown (mode : Lengths) (held : ℕ → Bool) (name : ℕ) (y : Types) (at : ℕ) : Nodes → Type 0 where
  as_element : {t k : ℕ} {h : Length} {s c : List ℕ} {r : Nodes} (i : Nodes) → held t ≡ true → HeadIs mode h s → CodesAre y t k c
      → Shown mode held name y at (node (opens name t h at (length s)) (cast_in y (at + length s) t k (length c) i) r)
  as_blank : {t k n : ℕ} {s c : List ℕ} {r : Nodes} → held t ≡ false → HeadIs mode (long n) s → CodesAre y t k c
      → Shown mode held name y at (leaf at (event kinds.blank name t (length s + n)) [] r)
