-- A tree's list without fourth words and its texts, each with more after it: what the writing takes for the tree.
use Prim.Native.Nat.{ℕ, ◌+◌}
use mathlib.Core.Path.{◌≡◌, refl, sym, ap, ap₂, ◌∙◌}
use mathlib.Core.List.{List, [], ◌∷◌, ◌++◌, map, append-nil, append_assoc, map-append}
use native.Mathlib.Omega.{arith}
use lib.ListN.{length, length-append}
use Rattle.model.specs.Model.{Event, end, Nodes, events, texts, tree_slots, tree_bytes}
use Rattle.model.specs.Model.Nodes.{none, leaf, node}
use Rattle.model.specs.Write.{Bare, bare}
use Rattle.model.specs.Plain.{NoBlank}
use Rattle.theorems.specs.Follows.{NoBlanks}
use Rattle.theorems.specs.Lists.{lists, spells}

-- they are those of the flattening
pub lists-events : (ns : Nodes) (M : List Bare) → lists ns M ≡ map bare (events ns) ++ M
unfolding lists events
lists-events none M = refl
lists-events (leaf at e ts r) M = ap (λ (l : List Bare). bare e ∷ l) (lists-events r M)
lists-events (node m i r) M =
    rw (lists-events i (bare end ∷ lists r M), lists-events r M, map-append bare (events i) (end ∷ events r))
    (ap₂ ◌∷◌ refl (sym (append_assoc (map bare (events i)) (bare end ∷ map bare (events r)) M)))

pub spells-texts : (ns : Nodes) (U : List ℕ) → spells ns U ≡ texts ns ++ U
unfolding spells texts
spells-texts none U = refl
spells-texts (leaf at e ts r) U = rw (spells-texts r U) (sym (append_assoc ts (texts r) U))
spells-texts (node m i r) U = rw (spells-texts i (spells r U), spells-texts r U) (sym (append_assoc (texts i) (texts r) U))

pub lists-all : (ns : Nodes) → lists ns [] ≡ map bare (events ns)
lists-all ns = lists-events ns [] ∙ append-nil (map bare (events ns))

pub spells-all : (ns : Nodes) → spells ns [] ≡ texts ns
spells-all ns = spells-texts ns [] ∙ append-nil (texts ns)

-- how many
pub lists_length : (ns : Nodes) (M : List Bare) → length (lists ns M) ≡ tree_slots ns + length M
unfolding lists tree_slots
lists_length none M = omega arith
lists_length (leaf at e ts r) M = omega (arith, lists_length r M)
lists_length (node m i r) M = omega (arith, lists_length r M, lists_length i (bare end ∷ lists r M))

pub spells-length : (ns : Nodes) (U : List ℕ) → length (spells ns U) ≡ tree_bytes ns + length U
unfolding spells tree_bytes
spells-length none U = omega arith
spells-length (leaf at e ts r) U = omega (arith, length-append ts (spells r U), spells-length r U)
spells-length (node m i r) U = omega (arith, spells-length i (spells r U), spells-length r U)

-- no Blank: a matter of the kinds
pub bare-none : (L : List Event) → NoBlank L → NoBlanks (map bare L)
bare-none [] h = tt
bare-none (e ∷ L) h = (h.0, bare-none L h.1)

pub none_bare : (L : List Event) → NoBlanks (map bare L) → NoBlank L
none_bare [] h = tt
none_bare (e ∷ L) h = (h.0, none_bare L h.1)
