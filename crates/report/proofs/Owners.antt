-- The owner by the list and by the tree: an element's own bits are its bits less those of its child elements.
use Prim.Native.Nat.{ℕ, ◌+◌, ◌-◌, ◌≤◌}
use mathlib.Core.Path.{◌≡◌, refl, sym, ap, ◌∙◌}
use mathlib.Core.Bool.{Bool, true, false, cond}
use mathlib.Core.List.{List, [], ◌∷◌, ◌++◌, append_assoc, append-nil}
use native.Mathlib.Omega.{arith}
use borrow.Author.Tests.{ne_eqb}
use lib.Dec.{eqb}
use Rattle.numbers.specs.Kind as kinds
use Rattle.model.specs.Model.{Event, end, Types, Plan, Mark, Nodes, start, events, tree_bits}
use Rattle.model.specs.Model.Plan.{done, element}
use Rattle.model.specs.Model.Nodes.{none, leaf, node}
use Rattle.model.specs.Items.{Lengths}
use Rattle.model.specs.Grammar.{Is, nothing, an_element, a_blank}
use Rattle.model.proofs.Leaves.{Inner, Leaves}
use Rattle.report.specs.Report.{sort_of, open_after, outer}
use Rattle.report.specs.Report.Sort.{blank, inside}
use Rattle.report.specs.Owners.{innermost_is, owner_is, owned_by, child_bits, tree_owned}

-- nothing stands beside the root: all bits are an element's
pub root-all : {mode : Lengths} {held : ℕ → Bool} {name : ℕ} {y : Types} {f : ℕ → Plan} {at : ℕ} {ns : Nodes} {w : List ℕ} → Is mode held (element name y f done) at ns w → tree_bits ns ≡ child_bits ns
unfolding tree_bits child_bits
root-all (an_element h d z g m nothing) = refl
root-all (a_blank w h d z u nothing) = refl

pub child_fits : (ns : Nodes) → child_bits ns ≤ tree_bits ns
unfolding child_bits tree_bits
child_fits none = omega arith
child_fits (leaf at e ts r) = go (eqb e.kind kinds.blank) (child_fits r)
  where
    go : (u : Bool) → child_bits r ≤ tree_bits r → cond u e.bits 0 + child_bits r ≤ e.bits + tree_bits r
    go true h = omega arith
    go false h = omega arith
child_fits (node m i r) = let h = child_fits r in omega arith

module _ (f : ℕ → Bool) (out : Bool) where
  -- an event that is no Start and no End
  leaf-owned : (e : Event) (L : List Event) (names : List ℕ) → Inner e
      → owned_by f out (e ∷ L) names ≡ cond (innermost_is f out names) (e.bits - cond (eqb e.kind kinds.blank) e.bits 0) 0 + owned_by f out L names
  unfolding owned_by owner_is open_after sort_of
  leaf-owned e L names h = rw (ne_eqb e.kind kinds.start h.0, ne_eqb e.kind kinds.end h.1) (go (eqb e.kind kinds.blank) (innermost_is f out names) refl)
    where
      go : (u v : Bool) → innermost_is f out names ≡ v → cond (owner_is f out (cond u blank inside) e.p names) e.bits 0 + owned_by f out L (open_after (cond u blank inside) e.p names)
          ≡ cond v (e.bits - cond u e.bits 0) 0 + owned_by f out L names
      go true true q = omega arith
      go true false q = omega arith
      go false true q = rw q (omega arith)
      go false false q = rw q (omega arith)

  start-owned : (m : Mark) (L : List Event) (names : List ℕ) → owned_by f out (start m ∷ L) names ≡ cond (f m.name) m.bits 0 + owned_by f out L (m.name ∷ names)
  unfolding owned_by owner_is open_after sort_of
  start-owned m L names = refl

  end-owned : (L : List Event) (x : ℕ) (names : List ℕ) → owned_by f out (end ∷ L) (x ∷ names) ≡ owned_by f out L names
  unfolding owned_by owner_is open_after sort_of outer innermost_is
  end-owned L x names = go (f x)
    where
      go : (u : Bool) → cond u 0 0 + owned_by f out L names ≡ owned_by f out L names
      go true = omega arith
      go false = omega arith

  sums-leaf : (v : Bool) (b k t c o r : ℕ) → k ≤ b → c ≤ t → cond v (b - k) 0 + (cond v (t - c) 0 + o + r) ≡ cond v (b + t - (k + c)) 0 + o + r
  sums-leaf true b k t c o r h g = omega arith
  sums-leaf false b k t c o r h g = omega arith

  sums-node : (u v : Bool) (m t c o t₂ c₂ o₂ r : ℕ) → c ≤ t → c₂ ≤ t₂
      → cond u m 0 + (cond u (t - c) 0 + o + (cond v (t₂ - c₂) 0 + o₂ + r)) ≡ cond v (m + t + t₂ - (m + t + c₂)) 0 + (cond u (m + t - c) 0 + o + o₂) + r
  sums-node true true m t c o t₂ c₂ o₂ r h g = omega arith
  sums-node true false m t c o t₂ c₂ o₂ r h g = omega arith
  sums-node false true m t c o t₂ c₂ o₂ r h g = omega arith
  sums-node false false m t c o t₂ c₂ o₂ r h g = omega arith

  blank_part : (u : Bool) (b : ℕ) → cond u b 0 ≤ b
  blank_part true b = omega arith
  blank_part false b = omega arith

  tree-then : (ns : Nodes) → Leaves ns → (L : List Event) (names : List ℕ)
      → owned_by f out (events ns ++ L) names ≡ cond (innermost_is f out names) (tree_bits ns - child_bits ns) 0 + tree_owned f ns + owned_by f out L names
  unfolding events tree_bits child_bits tree_owned innermost_is
  tree-then none h L names = go (innermost_is f out names)
    where
      go : (u : Bool) → owned_by f out L names ≡ cond u (0 - 0) 0 + 0 + owned_by f out L names
      go true = omega arith
      go false = omega arith
  tree-then (leaf at e ts r) h L names =
      leaf-owned e (events r ++ L) names h.0 ∙ ap (λ (x : ℕ). cond (innermost_is f out names) (e.bits - cond (eqb e.kind kinds.blank) e.bits 0) 0 + x) (tree-then r h.1 L names)
      ∙ sums-leaf (innermost_is f out names) e.bits (cond (eqb e.kind kinds.blank) e.bits 0) (tree_bits r) (child_bits r) (tree_owned f r) (owned_by f out L names)
      (blank_part (eqb e.kind kinds.blank) e.bits) (child_fits r)
  tree-then (node m i r) h L names =
      let a : (events i ++ (end ∷ events r)) ++ L ≡ events i ++ (end ∷ (events r ++ L)) = append_assoc (events i) (end ∷ events r) L in
      let inner = tree-then i h.0 (end ∷ (events r ++ L)) (m.name ∷ names) in
      let rest = end-owned (events r ++ L) m.name names ∙ tree-then r h.1 L names in
      ap (λ (l : List Event). owned_by f out (start m ∷ l) names) a
      ∙ start-owned m (events i ++ (end ∷ (events r ++ L))) names
      ∙ ap (λ (x : ℕ). cond (f m.name) m.bits 0 + x) (inner ∙ ap (λ (x : ℕ). cond (f m.name) (tree_bits i - child_bits i) 0 + tree_owned f i + x) rest)
      ∙ sums-node (f m.name) (innermost_is f out names) m.bits (tree_bits i) (child_bits i) (tree_owned f i) (tree_bits r) (child_bits r) (tree_owned f r) (owned_by f out L names) (child_fits i) (child_fits r)

  -- of a whole reading: the list's owner is the tree's
  pub tree-owned : (ns : Nodes) → Leaves ns → tree_bits ns ≡ child_bits ns → owned_by f out (events ns) [] ≡ tree_owned f ns
  unfolding owned_by innermost_is
  tree-owned ns h e =
      ap (λ (l : List Event). owned_by f out l []) (sym (append-nil (events ns))) ∙ tree-then ns h [] [] ∙ go out
    where
      go : (u : Bool) → cond u (tree_bits ns - child_bits ns) 0 + tree_owned f ns + 0 ≡ tree_owned f ns
      go true = omega arith
      go false = omega arith
