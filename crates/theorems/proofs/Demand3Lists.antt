-- Demand 3, first half, clause by clause: the first refuses exactly when some outermost newly held element has no length, and then with 9 at the first
-- such element; otherwise its list is the second's with each of them replaced.
use Prim.Native.Nat.{ℕ}
use mathlib.Core.Path.{◌≡◌, refl, sym, ap, ◌∙◌}
use mathlib.Core.List.{List, [], ◌∷◌, ◌++◌, reverse}
use mathlib.Core.Bool.{Bool, true, false}
use mathlib.Core.Option.{Option, none, some}
use native.Mathlib.Omega.{arith}
use Rattle.model.specs.Model.{Mark, Nodes, Path, tree_bits, ◌then◌}
use Rattle.model.specs.Model.Nodes.{leaf, node}
use Rattle.model.specs.Items.{Mode}
use Rattle.theorems.specs.Less.{outermost, replaced, first_bare}
use Rattle.model.specs.Whole.{Reply, accepted, declined, reading}
use Rattle.theorems.specs.Demand3.{Pair, says_less, new_of, Lengths, FirstIs}
use Rattle.theorems.proofs.Walk.{replaced-new, replaced-old}
use Rattle.theorems.proofs.Demand3.{second_accepts, first-none, none_first, first_some}

-- a first one is found
first_found : (before later : List (Mark × Path)) (m : Mark) (π : Path) → Lengths before → m.coded ≡ false → first_bare (before ++ ((m, π) ∷ later)) ≡ some (m, π)
unfolding first_bare
first_found [] later m π h e = rw e
first_found ((k, ρ) ∷ before) later m π h e = rw h.0 (first_found before later m π h.1 e)

some_first : (L : List (Mark × Path)) (m : Mark) (π : Path) → FirstIs L m π → first_bare L ≡ some (m, π)
some_first L m π f = ap first_bare f.splits ∙ first_found f.before f.later m π f.lengths f.bare

module _ (l l' : List ℕ) (party : ℕ) (pair : Pair l l' party) (name type : ℕ) (s : List ℕ) (words bytes : ℕ) (mode : Mode) (ns : Nodes) (q : ℕ) (e : reading l' party name type s words bytes ≡ accepted mode ns q) where
  -- the outermost newly held elements of what the second read, in order, each with the path around it
  abbrev pub Newly : List (Mark × Path)
  Newly = outermost (new_of l l' party) [] ns

  abbrev pub first : Reply
  first = reading l party name type s words bytes

  said : first ≡ says_less mode (first_bare Newly) (replaced (new_of l l' party) ns) q
  said = second_accepts l l' party pair name type s words bytes mode ns q e

  -- all of them have a length: the second's tree with each replaced; the same mode and bits used
  pub first_gives : Lengths Newly → first ≡ accepted mode (replaced (new_of l l' party) ns) q
  unfolding says_less
  first_gives h = said ∙ rw (none_first Newly h)

  -- m is the first of them that has none: 9 at its place, with the path around it
  pub first-refuses : (m : Mark) (π : Path) → FirstIs Newly m π → first ≡ declined 9 m.at (reverse π)
  unfolding says_less
  first-refuses m π f = said ∙ rw (some_first Newly m π f)

  -- and it refuses only then
  pub record Bare (n p : ℕ) (ρ : Path) : Type 0 where
    pub element : Mark
    pub around : Path
    pub is-first : FirstIs Newly element around
    pub number : n ≡ 9
    pub place : p ≡ element.at
    pub path : ρ ≡ reverse around

  pub refuses-only : (n p : ℕ) (ρ : Path) → first ≡ declined n p ρ → Bare n p ρ
  unfolding says_less
  refuses-only n p ρ z = go (first_bare Newly) refl (sym z ∙ said)
    where
      go : (o : Option (Mark × Path)) → first_bare Newly ≡ o → declined n p ρ ≡ says_less mode o (replaced (new_of l l' party) ns) q → Bare n p ρ
      go none y z = absurd (let w : ◌≡◌ {A = ℕ} 0 1 = cc in omega arith)
      go (some (m, π)) y z = record { element = m; around = π; is-first = first_some Newly m π y; number = cc; place = cc; path = cc }

  -- where the first gives: all of them have a length, and its tree is the second's with each replaced by one Blank of the same bit count, its texts
  -- left out; no other tree, mode or number of bits is allowed
  pub record Replaced (mode' : Mode) (ms : Nodes) (q' : ℕ) : Type 0 where
    pub lengths : Lengths Newly
    pub modes : mode' ≡ mode
    pub tree : ms ≡ replaced (new_of l l' party) ns
    pub used : q' ≡ q

  pub gives-only : (mode' : Mode) (ms : Nodes) (q' : ℕ) → first ≡ accepted mode' ms q' → Replaced mode' ms q'
  unfolding says_less
  gives-only mode' ms q' z = go (first_bare Newly) refl (sym z ∙ said)
    where
      go : (o : Option (Mark × Path)) → first_bare Newly ≡ o → accepted mode' ms q' ≡ says_less mode o (replaced (new_of l l' party) ns) q → Replaced mode' ms q'
      go none x y = record { lengths = first-none Newly x; modes = cc; tree = cc; used = cc }
      go (some (m, π)) x y = absurd (let w : ◌≡◌ {A = ℕ} 0 1 = cc in omega arith)

-- a Blank has the bits of what it stands for, so the sum of all bits stays
module _ (new : ℕ → Bool) where
  node-bits : (t : Bool) (m : Mark) (i r : Nodes) → new m.type ≡ t → tree_bits (replaced new i) ≡ tree_bits i → tree_bits (replaced new r) ≡ tree_bits r
      → tree_bits (replaced new (node m i r)) ≡ tree_bits (node m i r)
  unfolding tree_bits ◌then◌
  node-bits true m i r e f g = rw (replaced-new new m i r e) (omega arith)
  node-bits false m i r e f g = rw (replaced-old new m i r e) (omega arith)

  pub replaced-bits : (ns : Nodes) → tree_bits (replaced new ns) ≡ tree_bits ns
  unfolding replaced tree_bits
  replaced-bits Nodes.none = refl
  replaced-bits (leaf at e ts r) = omega (arith, replaced-bits r)
  replaced-bits (node m i r) = node-bits (new m.type) m i r refl (replaced-bits i) (replaced-bits r)
