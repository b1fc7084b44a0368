-- The words of a table: where each row begins, and the word at a place.
use Rattle.std.specs.Prelude.{ℕ, ◌+◌, ◌*◌, List, get_or}

-- word 0: the rows alone, or what may stand for a type or an element behind them
abbrev pub plain_form : ℕ
plain_form = 1

abbrev pub cast_form : ℕ
cast_form = 2

-- four header words, then T type rows of 7 words, A attribute rows of 3, P particle rows of 4
abbrev pub type_at : (t : ℕ) → ℕ
type_at t = 4 + 7 * t

abbrev pub attribute_at : (T a : ℕ) → ℕ
attribute_at T a = 4 + 7 * T + 3 * a

abbrev pub particle_at : (T A p : ℕ) → ℕ
particle_at T A p = 4 + 7 * T + 3 * A + 4 * p

-- where the rows end, B: a table of form 1 has that length
abbrev pub size_of : (T A P : ℕ) → ℕ
size_of T A P = 4 + 7 * T + 3 * A + 4 * P

-- form 2 goes on from B: D derived entries and S substitutes are there; the entries; the substitutes, of two words; a pair for each type; a pair for each particle row
abbrev pub derived_at : (B i : ℕ) → ℕ
derived_at B i = B + 2 + i

abbrev pub substitute_at : (B D i : ℕ) → ℕ
substitute_at B D i = B + 2 + D + 2 * i

abbrev pub type_pair_at : (B D S t : ℕ) → ℕ
type_pair_at B D S t = B + 2 + D + 2 * S + 2 * t

abbrev pub row_pair_at : (B D S T p : ℕ) → ℕ
row_pair_at B D S T p = B + 2 + D + 2 * S + 2 * T + 2 * p

-- the length of a table of form 2
abbrev pub cast_size_of : (B D S T P : ℕ) → ℕ
cast_size_of B D S T P = B + 2 + D + 2 * S + 2 * T + 2 * P

-- 0 past the end: a table of form 1 has neither derived types nor substitutes
abbrev pub word_at : (l : List ℕ) (i : ℕ) → ℕ
word_at l i = get_or l i 0

-- the numbers of rows, as the header has them
abbrev pub types_in : List ℕ → ℕ
types_in l = word_at l 1

abbrev pub attributes_in : List ℕ → ℕ
attributes_in l = word_at l 2

abbrev pub particles_in : List ℕ → ℕ
particles_in l = word_at l 3

-- where the rows end, and the numbers of derived entries and of substitutes behind them
abbrev pub rows_end : List ℕ → ℕ
rows_end l = size_of (types_in l) (attributes_in l) (particles_in l)

abbrev pub derivations_in : List ℕ → ℕ
derivations_in l = word_at l (rows_end l)

abbrev pub substitutes_in : List ℕ → ℕ
substitutes_in l = word_at l (rows_end l + 1)
