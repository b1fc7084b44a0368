-- Tables that are alike but for their held marks.
use Rattle.std.specs.Prelude.{ℕ, ◌≤◌, ◌<◌, ◌≡◌, List}
use Rattle.numbers.specs.Limit.{most_held}
use Rattle.table.specs.Words.{type_at, word_at, types_in}

-- i is the place of a type's held mark
abbrev pub Marked : List ℕ → ℕ → Type 0
Marked l i = (t : ℕ) × (t < types_in l) × (i ≡ type_at t)

pub record Alike (l l' : List ℕ) : Type 0 where
  pub same : (i : ℕ) → (Marked l i → ⊥) → word_at l i ≡ word_at l' i

-- every held word has marks of parties alone
pub record Marks (l : List ℕ) : Type 0 where
  pub mark : (t : ℕ) → t < types_in l → word_at l (type_at t) ≤ most_held
