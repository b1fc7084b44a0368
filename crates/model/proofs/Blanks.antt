-- BLANKS: one stands exactly where a type is not held and a length is coded. So by the grammar for every tree, and so in the reading at every head.
use Prim.Native.Nat.{ℕ, ◌+◌, ◌-◌}
use mathlib.Core.Path.{◌≡◌, refl}
use mathlib.Core.Bool.{Bool, true, false, cond}
use mathlib.Core.List.{List, [], ◌++◌}
use native.Mathlib.Omega.{arith}
use lib.ListN.{length, length-append}
use Rattle.wire.specs.Res.{got}
use Rattle.numbers.specs.Refusal.{not_held}
use Rattle.numbers.specs.Kind as kinds
use Rattle.model.specs.Model.{event, Types, codes, Nodes, Path, Plan}
use Rattle.model.specs.Model.Plan.{element}
use Rattle.model.specs.Model.Nodes.{leaf}
use Rattle.model.specs.Model.Answer.{refused}
use Rattle.model.specs.Items.{Lengths, Length, long, HeadIs, no_head, Head, head_at, codes_at}
use Rattle.model.specs.Grammar.{cast_in, Is, nothing, an_item, an_element, a_blank}
use Rattle.model.specs.Plain.{Plain}
use Rattle.model.proofs.Plain.{item-plain, cast-plain}
use Rattle.model.specs.Read.{Room, code, stored, Into, bare, sized, opened, element_at}
use Rattle.model.specs.Blanks.{Exact, Shown, as_element, as_blank}

pub cast-exact : (held : ℕ → Bool) (y : Types) (at t k n : ℕ) (ns : Nodes) → Exact held ns → Exact held (cast_in y at t k n ns)
unfolding cast_in
cast-exact held y at t k n ns h = go (codes y)
  where
    go : (u : Bool) → Exact held (cond u (leaf at (event kinds.cast t k n) [] ns) ns)
    go true = (λ e. absurd (omega arith), h)
    go false = h

pub is-exact : {mode : Lengths} {held : ℕ → Bool} {P : Plan} {at : ℕ} {ns : Nodes} {w : List ℕ} → Is mode held P at ns w → Exact held ns
is-exact nothing = tt
is-exact (an_item {i} {v} {w} h j) = (λ e. absurd (item-plain i v (length w) e), is-exact j)
is-exact (an_element {k} {y} {at} {s} {c} {i} h d z g m j) = (z, cast-exact _ y (at + length s) _ k (length c) i (is-exact g), is-exact j)
is-exact (a_blank w h d z u j) = (λ e. z, is-exact j)

pub element-shown : {mode : Lengths} {held : ℕ → Bool} {name : ℕ} {y : Types} {f : ℕ → Plan} {P : Plan} {at : ℕ} {ns : Nodes} {w : List ℕ}
    → Is mode held (element name y f P) at ns w → Shown mode held name y at ns
element-shown (an_element {i} x d z g m j) = as_element i z x d
element-shown (a_blank {s} {c} w x d z u j) = rw (length-append s (c ++ w)) (as_blank z x d)

-- where no length is coded there is none
no_length : {n : ℕ} {h : Length} {s : List ℕ} → HeadIs Lengths.never h s → h ≡ long n → ⊥
no_length no_head e = let z : ◌≡◌ {A = ℕ} 0 1 = cc in omega arith

pub never-plain : {held : ℕ → Bool} {P : Plan} {at : ℕ} {ns : Nodes} {w : List ℕ} → Is Lengths.never held P at ns w → Plain ns
never-plain nothing = tt
never-plain (an_item {i} {v} {w} h j) = (item-plain i v (length w), never-plain j)
never-plain (an_element {k} {y} {at} {s} {c} {i} h d z g m j) = (cast-plain y (at + length s) _ k (length c) i (never-plain g), never-plain j)
never-plain (a_blank w h d z u j) = absurd (no_length h refl)

-- in the reading: by the head and the codes that were read and the effective type's mark
module _ (b : ℕ → ℕ) (mode : Lengths) (held : ℕ → Bool) (f : Into) (name : ℕ) (y : Types) (r : Room) (π : Path) (wall at : ℕ) where
  pub blank-where : (t k p body end : ℕ) → head_at mode b wall at ≡ got (Head.sized body end) → codes_at y b end body ≡ got (t, k, p) → held t ≡ false
      → element_at b mode held f name y r π wall at ≡ stored r π at (event kinds.blank name t (end - at)) [] end
  unfolding element_at code opened sized
  blank-where t k p body end e c z = rw (e, c, z)

  pub nine-where : (t k p body : ℕ) → head_at mode b wall at ≡ got (Head.bare body) → codes_at y b wall body ≡ got (t, k, p) → held t ≡ false
      → element_at b mode held f name y r π wall at ≡ refused not_held at π
  unfolding element_at code opened bare
  nine-where t k p body e c z = rw (e, c, z)
