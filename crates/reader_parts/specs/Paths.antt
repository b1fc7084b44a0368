-- The path as an array and a count: its names, the innermost first, as the meanings have them.
use Rattle.std.specs.Prelude.{ℕ, zero, suc, ◌+◌, ◌≡◌, List, [], ◌∷◌, get_or}
use Rattle.reader_parts.specs.declared.Path.{Path}

-- the first n names, the last of them first
unfoldable pub back : List ℕ → ℕ → List ℕ
back l zero = []
back l (suc n) = get_or l n 0 ∷ back l n

unfoldable pub names_of : Path → List ℕ
names_of p = back p.names p.count

pub record Pushed (p : Path) (x : ℕ) (r : Path) : Type 0 where
  pub names : names_of r ≡ x ∷ names_of p
  pub count : r.count ≡ p.count + 1
