-- Every TheLength is shortest: of a tree, of its list. Each says the other, as no leaf of what is read is a Start or an End.
use Prim.Native.Nat.{ℕ, suc, ◌+◌}
use mathlib.Core.Path.{◌≡◌, refl, ap, ◌∙◌}
use mathlib.Core.Bool.{Bool, true, false, cond}
use mathlib.Core.List.{List, [], ◌∷◌, ◌++◌, append_assoc, append-nil}
use native.Mathlib.Omega.{arith}
use borrow.Author.Tests.{ne_eqb}
use lib.ListN.{length}
use Rattle.numbers.specs.Kind as kinds
use Rattle.wire.specs.Number.{code5}
use Rattle.model.specs.Model.{Event, event, end, Types, codes, Mark, Nodes, flag_of, start, events, tree_bits}
use Rattle.model.specs.Model.Nodes.{none, leaf, node}
use Rattle.model.specs.Grammar.{cast_in}
use Rattle.model.proofs.Leaves.{Inner, Leaves}
use Rattle.theorems.specs.Shortest.{open_after, unless_closed, bits_within, AllShortest}

-- of a tree
abbrev pub Tight : ℕ → Nodes → Type 0
Tight flag none = Unit
Tight flag (leaf at e ts r) = Tight flag r
Tight flag (node m i r) = (m.coded ≡ true → m.bits ≡ flag + length (code5 (tree_bits i))) × Tight flag i × Tight flag r

pub tight-cast : (flag : ℕ) (y : Types) (at t k n : ℕ) (ns : Nodes) → Tight flag ns → Tight flag (cast_in y at t k n ns)
unfolding cast_in
tight-cast flag y at t k n ns h = go (codes y)
  where
    go : (u : Bool) → Tight flag (cond u (leaf at (event kinds.cast t k n) [] ns) ns)
    go true = h
    go false = h

pub cast-tight : (flag : ℕ) (y : Types) (at t k n : ℕ) (ns : Nodes) → Tight flag (cast_in y at t k n ns) → Tight flag ns
unfolding cast_in
cast-tight flag y at t k n ns h = go (codes y) h
  where
    go : (u : Bool) → Tight flag (cond u (leaf at (event kinds.cast t k n) [] ns) ns) → Tight flag ns
    go true h = h
    go false h = h

-- an event inside leaves as many elements open
inner-open : (d : ℕ) (e : Event) → Inner e → open_after d e ≡ d
unfolding open_after
inner-open d e h = rw (ne_eqb e.kind kinds.start h.0, ne_eqb e.kind kinds.end h.1)

start-open : (d : ℕ) (m : Mark) → open_after d (start m) ≡ suc d
unfolding open_after
start-open d m = refl

end-open : (d : ℕ) → open_after (suc d) end ≡ d
unfolding open_after
end-open d = refl

within-open : (d k : ℕ) (e : Event) (L : List Event) → open_after d e ≡ suc k → bits_within d (e ∷ L) ≡ e.bits + bits_within (suc k) L
unfolding bits_within unless_closed
within-open d k e L h = rw h

-- what a tree has, and then the rest
within-tree : (ns : Nodes) → Leaves ns → (d : ℕ) (L : List Event) → bits_within (suc d) (events ns ++ L) ≡ tree_bits ns + bits_within (suc d) L
unfolding events tree_bits
within-tree none h d L = omega arith
within-tree (leaf at e ts r) h d L = omega (arith, within-open (suc d) d e (events r ++ L) (inner-open (suc d) e h.0), within-tree r h.1 d L)
within-tree (node m i r) h d L =
    let rest = events r ++ L in
    let opens = within-open (suc d) (suc d) (start m) (events i ++ (end ∷ rest)) (start-open (suc d) m) in
    let inside = within-tree i h.0 (suc d) (end ∷ rest) in
    let closes = within-open (suc (suc d)) d end rest (end-open (suc d)) in
    rw (append_assoc (events i) (end ∷ events r) L) (omega (arith, within-tree r h.1 d L))

-- of an element: what is inside it
within-element : (i : Nodes) → Leaves i → (L : List Event) → bits_within 1 (events i ++ (end ∷ L)) ≡ tree_bits i
unfolding bits_within unless_closed
within-element i h L =
    let closes : bits_within 1 (end ∷ L) ≡ 0 = rw (end-open 0) in
    omega (arith, within-tree i h 0 (end ∷ L))

coded-one : (u : Bool) → flag_of u ≡ 1 → u ≡ true
unfolding flag_of
coded-one true e = refl
coded-one false e = absurd (omega arith)

-- the tree's list, and more after it
shortest-tight : (flag : ℕ) (ns : Nodes) → Leaves ns → (L : List Event) → AllShortest flag (events ns ++ L) → Tight flag ns × AllShortest flag L
unfolding events flag_of
shortest-tight flag none h L s = (tt, s)
shortest-tight flag (leaf at e ts r) h L s = shortest-tight flag r h.1 L s.1
shortest-tight flag (node m i r) h L s =
    let e = append_assoc (events i) (end ∷ events r) L in
    let k = rw e at s in
    let a = shortest-tight flag i h.0 (end ∷ (events r ++ L)) k.1 in
    let b = shortest-tight flag r h.1 L a.1.1 in
    ((λ c. k.0 refl (ap flag_of c) ∙ rw (within-element i h.0 (events r ++ L)), a.0, b.0), b.1)

tight-shortest : (flag : ℕ) (ns : Nodes) → Leaves ns → (L : List Event) → Tight flag ns → AllShortest flag L → AllShortest flag (events ns ++ L)
unfolding events
tight-shortest flag none h L t s = s
tight-shortest flag (leaf at e ts r) h L t s = (λ k. absurd (h.0.0 k), tight-shortest flag r h.1 L t s)
tight-shortest flag (node m i r) h L t s =
    let rest : AllShortest flag (end ∷ (events r ++ L)) = (λ k. absurd (omega arith), tight-shortest flag r h.1 L t.2 s) in
    rw (append_assoc (events i) (end ∷ events r) L)
    (λ k q. t.0 (coded-one m.coded q) ∙ rw (within-element i h.0 (events r ++ L)), tight-shortest flag i h.0 (end ∷ (events r ++ L)) t.1 rest)

pub list-tight : (flag : ℕ) (ns : Nodes) → Leaves ns → AllShortest flag (events ns) → Tight flag ns
list-tight flag ns h s = (shortest-tight flag ns h [] (rw (append-nil (events ns)) s)).0

pub tight-list : (flag : ℕ) (ns : Nodes) → Leaves ns → Tight flag ns → AllShortest flag (events ns)
tight-list flag ns h t = rw (append-nil (events ns)) at (tight-shortest flag ns h [] t tt)
