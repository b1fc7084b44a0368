-- No Blank: of a list, of a tree. Each says the other; and where every type is held there is none.
use Prim.Native.Nat.{ℕ, ◌+◌}
use mathlib.Core.Path.{◌≡◌}
use mathlib.Core.Bool.{Bool, true, false, cond}
use mathlib.Core.List.{List, [], ◌∷◌, ◌++◌}
use native.Mathlib.Omega.{arith}
use lib.ListN.{length}
use Rattle.numbers.specs.Kind as kinds
use Rattle.model.specs.Model.{Event, event, end, Item, event_of, Types, codes, Plan, Nodes, events}
use Rattle.model.specs.Model.Item.{required, optional, valued, picked, counted}
use Rattle.model.specs.Model.Nodes.{none, leaf, node}
use Rattle.model.specs.Items.{Lengths}
use Rattle.model.specs.Grammar.{cast_in, Is, nothing, an_item, an_element, a_blank}
use Rattle.model.specs.Plain.{NoBlank, Plain}

pub item-plain : (i : Item) (v n : ℕ) → (event_of i v n).kind ≡ 7 → ⊥
unfolding event_of
item-plain (required name) v n e = omega arith
item-plain (optional name) v n e = omega arith
item-plain (valued kind b c) v n e = omega arith
item-plain (picked count) v n e = omega arith
item-plain (counted least most) v n e = omega arith

-- nor is the codes' event one
pub cast-plain : (y : Types) (at t k n : ℕ) (ns : Nodes) → Plain ns → Plain (cast_in y at t k n ns)
unfolding cast_in
cast-plain y at t k n ns h = go (codes y)
  where
    go : (u : Bool) → Plain (cond u (leaf at (event kinds.cast t k n) [] ns) ns)
    go true = (λ e. omega arith, h)
    go false = h

pub held_plain : {mode : Lengths} {held : ℕ → Bool} {P : Plan} {at : ℕ} {ns : Nodes} {w : List ℕ} → ((t : ℕ) → held t ≡ true) → Is mode held P at ns w → Plain ns
held_plain all nothing = tt
held_plain all (an_item {i} {v} {w} h j) = (item-plain i v (length w), held_plain all j)
held_plain all (an_element {k} {y} {at} {s} {c} {i} h d z g m j) = (cast-plain y (at + length s) _ k (length c) i (held_plain all g), held_plain all j)
held_plain all (a_blank {t} w h d z u j) = absurd (let n : ◌≡◌ {A = ℕ} 0 1 = cc (all t) in omega arith)

no-blank-right : (L K : List Event) → NoBlank (L ++ K) → NoBlank K
no-blank-right [] K h = h
no-blank-right (e ∷ L) K h = no-blank-right L K h.1

no-blank-left : (L K : List Event) → NoBlank (L ++ K) → NoBlank L
no-blank-left [] K h = tt
no-blank-left (e ∷ L) K h = (h.0, no-blank-left L K h.1)

pub list-plain : (ns : Nodes) → NoBlank (events ns) → Plain ns
unfolding events
list-plain none h = tt
list-plain (leaf at e ts r) h = (h.0, list-plain r h.1)
list-plain (node m i r) h = (list-plain i (no-blank-left (events i) (end ∷ events r) h.1), list-plain r (no-blank-right (events i) (end ∷ events r) h.1).1)

no-blank-both : (L K : List Event) → NoBlank L → NoBlank K → NoBlank (L ++ K)
no-blank-both [] K h k = k
no-blank-both (e ∷ L) K h k = (h.0, no-blank-both L K h.1 k)

pub plain-list : (ns : Nodes) → Plain ns → NoBlank (events ns)
unfolding events
plain-list none h = tt
plain-list (leaf at e ts r) h = (h.0, plain-list r h.1)
plain-list (node m i r) h =
    let rest : NoBlank (end ∷ events r) = (λ e. omega arith, plain-list r h.1) in
    (λ e. omega arith, no-blank-both (events i) (end ∷ events r) (plain-list i h.0) rest)
