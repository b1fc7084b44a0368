-- No leaf of what is read is a Start or an End: these are an element's own.
use Prim.Native.Nat.{ℕ, ◌+◌}
use mathlib.Core.Path.{◌≡◌}
use mathlib.Core.Bool.{Bool, true, false, cond}
use mathlib.Core.List.{List, []}
use native.Mathlib.Omega.{arith}
use lib.ListN.{length}
use Rattle.numbers.specs.Kind as kinds
use Rattle.model.specs.Model.{Event, event, Item, event_of, Types, codes, Plan, Nodes}
use Rattle.model.specs.Model.Item.{required, optional, valued, picked, counted}
use Rattle.model.specs.Model.Nodes.{none, leaf, node}
use Rattle.model.specs.Items.{Lengths}
use Rattle.model.specs.Grammar.{cast_in, Is, nothing, an_item, an_element, a_blank}

abbrev pub Inner : Event → Type 0
Inner e = (e.kind ≡ kinds.start → ⊥) × (e.kind ≡ kinds.end → ⊥)

abbrev pub Leaves : Nodes → Type 0
Leaves none = Unit
Leaves (leaf at e ts r) = Inner e × Leaves r
Leaves (node m i r) = Leaves i × Leaves r

item-inner : (i : Item) (v n : ℕ) → Inner (event_of i v n)
unfolding event_of
item-inner (required name) v n = (λ e. omega arith, λ e. omega arith)
item-inner (optional name) v n = (λ e. omega arith, λ e. omega arith)
item-inner (valued kind b c) v n = (λ e. omega arith, λ e. omega arith)
item-inner (picked count) v n = (λ e. omega arith, λ e. omega arith)
item-inner (counted least most) v n = (λ e. omega arith, λ e. omega arith)

cast-leaves : (y : Types) (at t k n : ℕ) (ns : Nodes) → Leaves ns → Leaves (cast_in y at t k n ns)
unfolding cast_in
cast-leaves y at t k n ns h = go (codes y)
  where
    go : (u : Bool) → Leaves (cond u (leaf at (event kinds.cast t k n) [] ns) ns)
    go true = ((λ e. omega arith, λ e. omega arith), h)
    go false = h

pub is-leaves : {mode : Lengths} {held : ℕ → Bool} {P : Plan} {at : ℕ} {ns : Nodes} {w : List ℕ} → Is mode held P at ns w → Leaves ns
is-leaves nothing = tt
is-leaves (an_item {i} {v} {w} h j) = (item-inner i v (length w), is-leaves j)
is-leaves (an_element {k} {y} {at} {s} {c} {i} h d z g m j) = (cast-leaves y (at + length s) _ k (length c) i (is-leaves g), is-leaves j)
is-leaves (a_blank w h d z u j) = ((λ e. omega arith, λ e. omega arith), is-leaves j)
