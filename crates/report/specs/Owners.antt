-- Whose bits are whose. On a list of events: an event is its own element's, where it begins one, else the innermost element's that is open; a Blank's
-- bits are nobody's own. On the tree: an element's own bits are its bits less those of its child elements.
use Rattle.std.specs.Prelude.{ℕ, zero, suc, ◌+◌, ◌-◌, Bool, false, cond, List, [], ◌∷◌, eqb}
use Rattle.numbers.specs.Kind as kinds
use Rattle.model.specs.Model.{Event, Nodes, tree_bits}
use Rattle.model.specs.Model.Nodes.{none, leaf, node}
use Rattle.report.specs.Places.{other, first_line, lines, line_numbers}
use Rattle.report.specs.Report.{Sort, sort_of, open_after}
use Rattle.report.specs.Report.Sort.{begins, blank, ends, inside}

-- f says which names are asked of; the names of the open elements, the innermost first. Outside of every element, where no event of a reading is, out says
unfoldable pub innermost_is : (ℕ → Bool) → (out : Bool) → List ℕ → Bool
innermost_is f out [] = out
innermost_is f out (x ∷ names) = f x

unfoldable pub owner_is : (ℕ → Bool) → (out : Bool) → Sort → (name : ℕ) → List ℕ → Bool
owner_is f out begins x names = f x
owner_is f out blank x names = false
owner_is f out ends x names = innermost_is f out names
owner_is f out inside x names = innermost_is f out names

-- the bits of the events that such elements own
unfoldable pub owned_by : (ℕ → Bool) → (out : Bool) → List Event → (names : List ℕ) → ℕ
owned_by f out [] names = 0
owned_by f out (e ∷ L) names =
    cond (owner_is f out (sort_of e.kind) e.p names) e.bits 0 + owned_by f out L (open_after (sort_of e.kind) e.p names)

-- how many Starts and Blanks have such a name; the bits of such Blanks
unfoldable pub met_once : (ℕ → Bool) → Sort → (name : ℕ) → ℕ
met_once f begins x = cond (f x) 1 0
met_once f blank x = cond (f x) 1 0
met_once f ends x = 0
met_once f inside x = 0

unfoldable pub met_by : (ℕ → Bool) → List Event → ℕ
met_by f [] = 0
met_by f (e ∷ L) = met_once f (sort_of e.kind) e.p + met_by f L

unfoldable pub blanked_once : (ℕ → Bool) → Sort → (name bits : ℕ) → ℕ
blanked_once f begins x n = 0
blanked_once f blank x n = cond (f x) n 0
blanked_once f ends x n = 0
blanked_once f inside x n = 0

unfoldable pub blanked_by : (ℕ → Bool) → List Event → ℕ
blanked_by f [] = 0
blanked_by f (e ∷ L) = blanked_once f (sort_of e.kind) e.p e.bits + blanked_by f L

-- on the tree: the bits of the elements that stand directly in it, opened or stepped over; and what is left of each element's bits without those
unfoldable pub child_bits : Nodes → ℕ
child_bits none = 0
child_bits (leaf at e ts r) = cond (eqb e.kind kinds.blank) e.bits 0 + child_bits r
child_bits (node m i r) = m.bits + tree_bits i + child_bits r

unfoldable pub tree_owned : (ℕ → Bool) → Nodes → ℕ
tree_owned f none = 0
tree_owned f (leaf at e ts r) = tree_owned f r
tree_owned f (node m i r) = cond (f m.name) (m.bits + tree_bits i - child_bits i) 0 + tree_owned f i + tree_owned f r

-- distinct names in the order of first sight: one more name, those of a list
unfoldable pub noted : (name : ℕ) → List ℕ → List ℕ
noted x [] = x ∷ []
noted x (y ∷ N) = y ∷ cond (eqb y x) N (noted x N)

unfoldable pub noted_if : Sort → (name : ℕ) → List ℕ → List ℕ
noted_if begins x N = noted x N
noted_if blank x N = noted x N
noted_if ends x N = N
noted_if inside x N = N

unfoldable pub notes : List Event → List ℕ → List ℕ
notes [] N = N
notes (e ∷ L) N = notes L (noted_if (sort_of e.kind) e.p N)

-- the line of a name, where these are the distinct names: the r-th of the first n has the r-th line from the place i on, all others have other
unfoldable pub place_from : List ℕ → (name n i : ℕ) → ℕ
place_from N x zero i = other
place_from [] x (suc n) i = other
place_from (y ∷ N) x (suc n) i = cond (eqb y x) i (place_from N x n (i + line_numbers))

unfoldable pub place_of : List ℕ → (name : ℕ) → ℕ
place_of N x = place_from N x lines first_line
