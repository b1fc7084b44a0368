-- Words that stand one after another, from place i on.
use Rattle.std.specs.Prelude.{ℕ, ◌+◌, ◌<◌, ◌≡◌, List, ◌++◌, Bool, get_or, length}
use Rattle.table.specs.Valid.{front_words, content_words}
use Rattle.table.specs.Words.{word_at}

pub record RunAt (l : List ℕ) (i n : ℕ) (run : List ℕ) : Type 0 where
  pub long : length run ≡ n
  pub each : (k : ℕ) → k < n → get_or run k 0 ≡ word_at l (i + k)

-- the tests of a type row's words, which are given
unfoldable pub type_words : (A P : ℕ) → List ℕ → List Bool
type_words A P w =
    front_words A (word_at w 0) (word_at w 1) (word_at w 2) (word_at w 3) ++ content_words P (word_at w 1) (word_at w 4) (word_at w 5) (word_at w 6)
