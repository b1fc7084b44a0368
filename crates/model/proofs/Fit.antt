-- A reading gives no more events and text bytes than there is room for, wherever it begins.
use Prim.Native.Nat.{ℕ, ◌-◌, ◌≤◌}
use mathlib.Core.Bool.{Bool}
use native.Mathlib.Omega.{arith}
use Rattle.model.specs.Model.{Plan, Nodes, Path, Answer, tree_slots, tree_bytes}
use Rattle.model.specs.Model.Answer.{given, refused}
use Rattle.model.specs.Items.{Lengths}
use Rattle.model.specs.Read.{Room, read}
use Rattle.model.proofs.Readings.{Extent, Goes, an_item, an_element, a_blank, nothing, more, cast-bytes, read_by}
use Rattle.model.proofs.Trees.{slots-then, bytes-then}

abbrev pub FitsRoom : Room → Answer → Type 0
FitsRoom r (given ns q) = (tree_slots ns ≤ r.slots) × (tree_bytes ns ≤ r.bytes)
FitsRoom r (refused n p π) = Unit {0}

module _ (b : ℕ → ℕ) (mode : Lengths) (held : ℕ → Bool) where
  pub goes-fits : {x : Extent} {P Q : Plan} {r : Room} {wall at q : ℕ} {ns : Nodes}
      → Goes b mode held x P r wall at ns q Q → (tree_slots ns ≤ r.slots) × (tree_bytes ns ≤ r.bytes)
  unfolding tree_slots tree_bytes
  goes-fits (an_item e h k) = omega arith
  goes-fits (an_element {y} {ns} x z g e h) =
      let l = goes-fits g in
      omega (arith, cast-bytes y x.body x.t x.k (x.past - x.body) ns)
  goes-fits (a_blank n x e z h) = omega arith
  goes-fits nothing = omega arith
  goes-fits (more {ns} {ms} f g) =
      let x = goes-fits f in let y = goes-fits g in omega (arith, slots-then ns ms, bytes-then ns ms)

  pub read_fits : (P : Plan) (r : Room) (π : Path) (wall at : ℕ) → FitsRoom r (read b mode held P r π wall at)
  read_fits P r π wall at = read_by b mode held (FitsRoom r) P r π wall at (λ ns q g. goes-fits g) (λ n p ρ d. tt)
