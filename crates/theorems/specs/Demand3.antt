-- Two tables alike but for held words, the second's marks of a party including the first's, and what the first then says to that party.
use Rattle.std.specs.Prelude.{ℕ, ◌<◌, ◌≡◌, List, [], ◌∷◌, ◌++◌, reverse, Bool, true, false}
use Rattle.std.proofs.Math.Option.{Option, none, some}
use Rattle.numbers.specs.Refusal.{not_held}
use Rattle.table.specs.First.Verdict.{right}
use Rattle.table.specs.Valid.{verdict}
use Rattle.table.specs.Rows.{table_of, held_of}
use Rattle.table.specs.Held.{Alike}
use Rattle.model.specs.Model.{Mark, Nodes, Path}
use Rattle.model.specs.Items.{Mode}
use Rattle.theorems.specs.Less.{newly}
use Rattle.model.specs.Whole.{Reply, accepted, declined}

-- the two tables; the marks of other parties are free
pub record Pair (l l' : List ℕ) (party : ℕ) : Type 0 where
  pub first_right : verdict l ≡ right
  pub second_right : verdict l' ≡ right
  pub alike : Alike l l'
  pub holds : (t : ℕ) → t < (table_of l).types → held_of l party t ≡ true → held_of l' party t ≡ true

-- held by the second and not by the first
abbrev pub new_of : List ℕ → List ℕ → (party : ℕ) → ℕ → Bool
new_of l l' party t = newly (held_of l party) (held_of l' party) t

-- the first's answer: 9 at the first outermost newly held element that has no length; or, where there is none, the second's tree with each of
-- them replaced by one Blank of the same bit count, and the same bits used
unfoldable pub says_less : Mode → Option (Mark × Path) → Nodes → ℕ → Reply
says_less mode none ns q = accepted mode ns q
says_less mode (some (m, π)) ns q = declined not_held m.at (reverse π)

-- what the first bare one is: all before it have a length, and it has none; and there is none exactly where all have a length
abbrev pub Lengths : List (Mark × Path) → Type 0
Lengths [] = Unit {0}
Lengths ((m, π) ∷ L) = (m.coded ≡ true) × Lengths L

pub record FirstIs (L : List (Mark × Path)) (m : Mark) (π : Path) : Type 0 where
  pub before : List (Mark × Path)
  pub later : List (Mark × Path)
  pub splits : L ≡ before ++ ((m, π) ∷ later)
  pub lengths : Lengths before
  pub bare : m.coded ≡ false
