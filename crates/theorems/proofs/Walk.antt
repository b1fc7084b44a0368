-- The same in one walk over the tree, so that a proof goes along the reading; `walk-said` says that it is the same.
use Prim.Native.Nat.{ℕ, ◌+◌, ◌≤◌}
use mathlib.Core.Path.{◌≡◌, refl, sym, ap, ◌∙◌}
use mathlib.Core.List.{List, [], ◌∷◌, ◌++◌}
use mathlib.Core.Bool.{Bool, true, false, cond}
use mathlib.Core.Option.{Option, none, some}
use native.Mathlib.Omega.{arith}
use Rattle.numbers.specs.Refusal.{not_held}
use Rattle.numbers.specs.Kind as kinds
use Rattle.model.specs.Model.{event, Types, codes, Mark, Nodes, Path, Answer, tree_slots, tree_bytes, tree_bits, ◌then◌}
use Rattle.model.specs.Model.Nodes.{leaf, node}
use Rattle.model.specs.Model.Answer.{given, refused}
use Rattle.model.specs.Grammar.{cast_in}
use Rattle.model.proofs.Trees.{slots-then, bytes-then}
use Rattle.theorems.specs.Less.{outermost, replaced, first_bare, said}

pub data Walk : Type 0 where
  shown : Nodes → Walk
  lacking : ℕ → Path → Walk

unfoldable pub both : Walk → Walk → Walk
both (shown ns) (shown ms) = shown (ns then ms)
both (shown ns) (lacking p π) = lacking p π
both (lacking p π) w = lacking p π

unfoldable pub enclosed : Mark → Walk → Walk
enclosed m (shown ns) = shown (node m ns Nodes.none)
enclosed m (lacking p π) = lacking p π

abbrev pub blank_of : Mark → Nodes → Nodes
blank_of m i = leaf m.at (event kinds.blank m.name m.type (m.bits + tree_bits i)) [] Nodes.none

-- an element with what is inside it and the walk over that: kept unless it is newly held, one Blank where it has a length
unfoldable pub shown_as : Bool → Bool → Mark → Path → Nodes → Walk → Walk
shown_as false c m π i w = enclosed m w
shown_as true true m π i w = shown (blank_of m i)
shown_as true false m π i w = lacking m.at π

unfoldable pub walk : (ℕ → Bool) → Path → Nodes → Walk
walk new π Nodes.none = shown Nodes.none
walk new π (leaf at e ts r) = both (shown (leaf at e ts Nodes.none)) (walk new π r)
walk new π (node m i r) = both (shown_as (new m.type) m.coded m π i (walk new (m.name ∷ π) i)) (walk new π r)

unfoldable pub answer : Walk → ℕ → Answer
answer (shown ns) q = given ns q
answer (lacking p π) q = refused not_held p π

-- the walk shows no more than it was given
abbrev pub ShowsNoMore : Walk → Nodes → Type 0
ShowsNoMore (shown ms) ns = (tree_slots ms ≤ tree_slots ns) × (tree_bytes ms ≤ tree_bytes ns)
ShowsNoMore (lacking p π) ns = Unit {0}

both-fits : (u v : Walk) (a b : Nodes) → ShowsNoMore u a → ShowsNoMore v b → ShowsNoMore (both u v) (a then b)
unfolding both
both-fits (shown ns) (shown ms) a b f g =
    let s = slots-then ns ms in
    let t = slots-then a b in
    let u = bytes-then ns ms in
    let v = bytes-then a b in
    omega arith
both-fits (shown ns) (lacking p π) a b f g = tt
both-fits (lacking p π) v a b f g = tt

pub shown_as-fits : (t c : Bool) (m : Mark) (π : Path) (i : Nodes) (w : Walk) → ShowsNoMore w i → ShowsNoMore (shown_as t c m π i w) (node m i Nodes.none)
unfolding shown_as enclosed tree_slots tree_bytes
shown_as-fits false c m π i (shown ns) f = omega arith
shown_as-fits false c m π i (lacking p ρ) f = tt
shown_as-fits true true m π i w f = omega arith
shown_as-fits true false m π i w f = tt

pub walk-fits : (new : ℕ → Bool) (π : Path) (ns : Nodes) → ShowsNoMore (walk new π ns) ns
unfolding walk ◌then◌
walk-fits new π Nodes.none = omega arith
walk-fits new π (leaf at e ts r) = both-fits (shown (leaf at e ts Nodes.none)) (walk new π r) (leaf at e ts Nodes.none) r (omega arith) (walk-fits new π r)
walk-fits new π (node m i r) =
    both-fits (shown_as (new m.type) m.coded m π i (walk new (m.name ∷ π) i)) (walk new π r) (node m i Nodes.none) r
    (shown_as-fits (new m.type) m.coded m π i (walk new (m.name ∷ π) i) (walk-fits new (m.name ∷ π) i)) (walk-fits new π r)

-- the codes' event stays, before what is inside
pub walk-cast : (new : ℕ → Bool) (π : Path) (y : Types) (at t k n : ℕ) (ns : Nodes)
    → walk new π (cast_in y at t k n ns) ≡ both (shown (cast_in y at t k n Nodes.none)) (walk new π ns)
unfolding walk cast_in both ◌then◌
walk-cast new π y at t k n ns = go (codes y) (walk new π ns) refl
  where
    go : (u : Bool) (w : Walk) → walk new π ns ≡ w → walk new π (cond u (leaf at (event kinds.cast t k n) [] ns) ns) ≡ both (shown (cond u (leaf at (event kinds.cast t k n) [] Nodes.none) Nodes.none)) w
    go true w e = rw e
    go false (shown ms) e = e
    go false (lacking p ρ) e = e

-- where nothing is new it leaves the tree as it is
pub walk_none : (new : ℕ → Bool) → ((t : ℕ) → new t ≡ false) → (π : Path) (ns : Nodes) → walk new π ns ≡ shown ns
unfolding walk both shown_as enclosed ◌then◌
walk_none new none-new π Nodes.none = refl
walk_none new none-new π (leaf at e ts r) = rw (walk_none new none-new π r)
walk_none new none-new π (node m i r) = rw (none-new m.type, walk_none new none-new (m.name ∷ π) i, walk_none new none-new π r)

-- the walk is the first bare one of the outermost, or else the tree with all of them replaced
abbrev sums : Option (Mark × Path) → Nodes → Walk
sums none ns = shown ns
sums (some (m, π)) ns = lacking m.at π

first-append : (l k : List (Mark × Path)) (a b : Nodes) → sums (first_bare (l ++ k)) (a then b) ≡ both (sums (first_bare l) a) (sums (first_bare k) b)
unfolding first_bare both
first-append [] k a b = go (first_bare k)
  where
    go : (o : Option (Mark × Path)) → sums o (a then b) ≡ both (shown a) (sums o b)
    go none = refl
    go (some (m, π)) = refl
first-append ((m, π) ∷ l) k a b = go m.coded (first-append l k a b)
  where
    go : (c : Bool) → sums (first_bare (l ++ k)) (a then b) ≡ both (sums (first_bare l) a) (sums (first_bare k) b) → sums (cond c (first_bare (l ++ k)) (some (m, π))) (a then b) ≡ both (sums (cond c (first_bare l) (some (m, π))) a) (sums (first_bare k) b)
    go true h = h
    go false h = refl

sums-node : (m : Mark) (o : Option (Mark × Path)) (ns : Nodes) → enclosed m (sums o ns) ≡ sums o (node m ns Nodes.none)
unfolding enclosed
sums-node m none ns = refl
sums-node m (some (k, π)) ns = refl

-- what becomes of an element: one that is newly held is its Blank, and one of the outermost; any other stays, and so on inside it
module _ (new : ℕ → Bool) (m : Mark) (i r : Nodes) where
  pub replaced-new : new m.type ≡ true → replaced new (node m i r) ≡ blank_of m i then replaced new r
  unfolding replaced ◌then◌
  replaced-new e = rw e

  pub replaced-old : new m.type ≡ false → replaced new (node m i r) ≡ node m (replaced new i) (replaced new r)
  unfolding replaced
  replaced-old e = rw e

  outermost-new : (π : Path) → new m.type ≡ true → outermost new π (node m i r) ≡ ((m, π) ∷ []) ++ outermost new π r
  unfolding outermost
  outermost-new π e = rw e

  outermost-old : (π : Path) → new m.type ≡ false → outermost new π (node m i r) ≡ outermost new (m.name ∷ π) i ++ outermost new π r
  unfolding outermost
  outermost-old π e = rw e

pub walk-sums : (new : ℕ → Bool) (π : Path) (ns : Nodes) → walk new π ns ≡ sums (first_bare (outermost new π ns)) (replaced new ns)
unfolding walk outermost replaced first_bare shown_as ◌then◌
walk-sums new π Nodes.none = refl
walk-sums new π (leaf at e ts r) = ap (both (shown (leaf at e ts Nodes.none))) (walk-sums new π r) ∙ sym (first-append [] (outermost new π r) (leaf at e ts Nodes.none) (replaced new r))
walk-sums new π (node m i r) = ap (both (shown_as (new m.type) m.coded m π i (walk new (m.name ∷ π) i))) (walk-sums new π r) ∙ go (new m.type) refl (walk-sums new (m.name ∷ π) i)
  where
    blank : (c : Bool) → m.coded ≡ c → shown_as true c m π i (walk new (m.name ∷ π) i) ≡ sums (first_bare ((m, π) ∷ [])) (blank_of m i)
    blank true e = rw e
    blank false e = rw e

    said-as : {l k : List (Mark × Path)} {a b : Nodes} → l ≡ k → a ≡ b → sums (first_bare k) b ≡ sums (first_bare l) a
    said-as e f = λ j. sums (first_bare (sym e j)) (sym f j)

    go : (t : Bool) → new m.type ≡ t → walk new (m.name ∷ π) i ≡ sums (first_bare (outermost new (m.name ∷ π) i)) (replaced new i)
        → both (shown_as t m.coded m π i (walk new (m.name ∷ π) i)) (sums (first_bare (outermost new π r)) (replaced new r))
        ≡ sums (first_bare (outermost new π (node m i r))) (replaced new (node m i r))
    go true e h =
        ap (λ (w : Walk). both w (sums (first_bare (outermost new π r)) (replaced new r))) (blank m.coded refl)
        ∙ sym (first-append ((m, π) ∷ []) (outermost new π r) (blank_of m i) (replaced new r))
        ∙ said-as (outermost-new new m i r π e) (replaced-new new m i r e)
    go false e h =
        ap (λ (w : Walk). both w (sums (first_bare (outermost new π r)) (replaced new r)))
        (ap (enclosed m) h ∙ sums-node m (first_bare (outermost new (m.name ∷ π) i)) (replaced new i))
        ∙ sym (first-append (outermost new (m.name ∷ π) i) (outermost new π r) (node m (replaced new i) Nodes.none) (replaced new r))
        ∙ said-as (outermost-old new m i r π e) (replaced-old new m i r e)

pub walk-said : (new : ℕ → Bool) (π : Path) (ns : Nodes) (q : ℕ) → answer (walk new π ns) q ≡ said (first_bare (outermost new π ns)) (replaced new ns) q
unfolding answer said
walk-said new π ns q = ap (λ (w : Walk). answer w q) (walk-sums new π ns) ∙ go (first_bare (outermost new π ns))
  where
    go : (o : Option (Mark × Path)) → answer (sums o (replaced new ns)) q ≡ said o (replaced new ns) q
    go none = refl
    go (some (m, ρ)) = refl
