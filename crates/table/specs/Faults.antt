-- What a verdict says of a table's words.
use Rattle.std.specs.Prelude.{ℕ, ◌≤◌, ◌<◌, ◌≡◌, List, true, false, length}
use Rattle.table.specs.First.{Verdict}
use Rattle.table.specs.First.Verdict.{right, wrong}
use Rattle.table.specs.Valid.{Sized, right_at}

pub record Whole (l : List ℕ) : Type 0 where
  pub sized : Sized l
  pub words : (i : ℕ) → i < length l → right_at l i ≡ true

pub data Fault (l : List ℕ) (i : ℕ) : Type 0 where
  -- a header word, or, where the length is right, any other
  at_word : i < length l → (4 ≤ i → Sized l) → right_at l i ≡ false → ((j : ℕ) → j < i → right_at l j ≡ true) → Fault l i
  at_length : i ≡ length l → (Sized l → ⊥) → ((j : ℕ) → j < 4 → right_at l j ≡ true) → Fault l i

module _ (l : List ℕ) where
  -- what a verdict says
  abbrev pub Says : Verdict → Type 0
  Says right = Whole l
  Says (wrong i) = Fault l i
