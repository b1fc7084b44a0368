-- The first that fails of tests made in order, one for each place.
use Rattle.std.specs.Prelude.{ℕ, suc, ◌+◌, List, [], ◌∷◌, Bool, true, false}

-- right, or the place of the first word at fault
pub data Verdict : Type 0 where
  right : Verdict
  wrong : (place : ℕ) → Verdict

-- the tests are of the places i, i + 1, ..
unfoldable pub first : ℕ → List Bool → Verdict
first i [] = right
first i (true ∷ bs) = first (suc i) bs
first i (false ∷ bs) = wrong i

-- what comes earlier in order is named
infixr 30 ◌then◌
unfoldable pub ◌then◌ : Verdict → Verdict → Verdict
right then v = v
wrong i then v = wrong i

-- what is said of tests that begin at 0, said of the same from b on
abbrev pub moved : (b : ℕ) → Verdict → Verdict
moved b right = right
moved b (wrong k) = wrong (b + k)

unfoldable pub judge : ℕ → Bool → Verdict
judge i true = right
judge i false = wrong i
