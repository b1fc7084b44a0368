-- The words of a table that are lent to the word functions, and where a fault that they tell lies in the table.
use Rattle.std.specs.Prelude.{ℕ, ◌/◌, ◌%◌, ◌≤◌, min, ◌≡◌, Bool, false, cond, eqb, leb}
use Rattle.numbers.specs.Limit.{most_table_words}

-- whether a table can have b bytes
abbrev pub is_whole : ℕ → Bool
is_whole b = cond (eqb (b % 4) 0) (leb (b / 4) most_table_words) false

-- a fault at the number of words seen is one at the number of words given
abbrev pub place_in_table : (seen given place : ℕ) → ℕ
place_in_table seen given place = cond (eqb place seen) given place

-- how many words of a table of b bytes are lent: all of them, or four at most where the length is wrong
abbrev pub words_lent : ℕ → ℕ
words_lent b = cond (eqb (b % 4) 0) (cond (leb (b / 4) most_table_words) (b / 4) 4) (min (b / 4) 4)

-- what each call asks of the room in which it looks at n words of a table of b bytes
pub record Lends (n b room : ℕ) : Type 0 where
  pub words : n ≡ words_lent b
  pub given : n ≤ b / 4
  pub fits : n ≤ room
