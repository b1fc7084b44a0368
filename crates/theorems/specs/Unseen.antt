-- THE BITS THAT NOBODY LOOKS INTO: of what is so by the grammar, the places in a Blank past its head and its codes.
use Rattle.std.specs.Prelude.{ℕ, ◌+◌, ◌<◌, ◌≤◌, Bool, List, ◌++◌, ◌⊎◌, length}
use Rattle.model.specs.Model.{Plan, Nodes}
use Rattle.model.specs.Items.{Lengths}
use Rattle.model.specs.Grammar.{Is, nothing, an_item, an_element, a_blank}

unfoldable pub Unseen : {mode : Lengths} {held : ℕ → Bool} {P : Plan} {at : ℕ} {ns : Nodes} {w : List ℕ} → Is mode held P at ns w → ℕ → Type 0
Unseen nothing i = ⊥
Unseen (an_item h j) i = Unseen j i
Unseen (an_element h d z g m j) i = Unseen g i ⊎ Unseen j i
Unseen (a_blank {at} {s} {c} w h d z u j) i = ((at + length (s ++ c) ≤ i) × (i < at + length (s ++ (c ++ w)))) ⊎ Unseen j i
