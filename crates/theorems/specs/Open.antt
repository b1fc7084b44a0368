-- "Still open": a refusal, by its place and path, lies within an element that a tree shows as a Blank and that another holds. Paths here are
-- document 01's, the outermost open element first.
use Rattle.std.specs.Prelude.{ℕ, ◌+◌, ◌≤◌, ◌≡◌, List, [], ◌∷◌, ◌++◌, Bool, true}
use Rattle.model.specs.Model.{Event, Mark, Nodes, Path}
use Rattle.model.specs.Model.Nodes.{leaf, node}

-- the path ρ begins with π
pub record Begins (π ρ : Path) : Type 0 where
  pub more : Path
  pub is : ρ ≡ π ++ more

-- the place p and the path ρ lie in an element that the tree, read at the path π, shows as a Blank of a newly held type: the elements around it
-- and it itself are in the path, and the place is one of its bits or the one past them
pub data StillOpen (new : ℕ → Bool) (p : ℕ) (ρ : Path) : Path → Nodes → Type 0 where
  here : {π : Path} {at : ℕ} {e : Event} {ts : List ℕ} {r : Nodes} → e.kind ≡ 7 → new e.q ≡ true → Begins (π ++ (e.p ∷ [])) ρ → at ≤ p → p ≤ at + e.bits
      → StillOpen new p ρ π (leaf at e ts r)
  past : {π : Path} {at : ℕ} {e : Event} {ts : List ℕ} {r : Nodes} → StillOpen new p ρ π r → StillOpen new p ρ π (leaf at e ts r)
  inside : {π : Path} {m : Mark} {i r : Nodes} → StillOpen new p ρ (π ++ (m.name ∷ [])) i → StillOpen new p ρ π (node m i r)
  beyond : {π : Path} {m : Mark} {i r : Nodes} → StillOpen new p ρ π r → StillOpen new p ρ π (node m i r)

-- why the second may refuse (number n, place p, path ρ) what the first gives (ns, read at the path π): no room for the event, no room for the
-- text, or such an element is still open
pub data Excuse (new : ℕ → Bool) (π : Path) (ns : Nodes) (n p : ℕ) (ρ : Path) : Type 0 where
  no_slot : n ≡ 7 → Excuse new π ns n p ρ
  no_bytes : n ≡ 8 → Excuse new π ns n p ρ
  still_open : StillOpen new p ρ π ns → Excuse new π ns n p ρ
