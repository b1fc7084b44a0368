-- What a reader must believe: a word's rank among the signed numbers, the gap between two words, a word moved up or down, sign and magnitude, wrapping.
use Rattle.std.specs.Prelude.{ℕ, zero, suc, ◌+◌, ◌-◌, ◌%◌, ◌^◌, cond, ltb, ℤ, pos, negsuc}

-- a word's place among the words in the order of their signed numbers: 2 ^ 31, the lowest number's word, is at 0, and 0 is at 2 ^ 31
abbrev pub rank : ℕ → ℕ
rank w = (w + 2 ^ 31) % 2 ^ 32

-- from one word up to another: the other lies under it, or over it by so much
pub data Gap : Type 0 where
  under : Gap
  by : ℕ → Gap

unfoldable pub gap_of : ℕ → ℕ → Gap
gap_of b c = cond (ltb (rank c) (rank b)) under (by (rank c - rank b))

-- the word of b + k
abbrev pub up : ℕ → ℕ → ℕ
up b k = (b + k) % 2 ^ 32

-- the word of v less b
abbrev pub down : ℕ → ℕ → ℕ
down b v = (v + (2 ^ 32 - b)) % 2 ^ 32

-- the sign bit, 1 where negative, and the distance from 0
unfoldable pub sign_of : ℕ → ℕ
sign_of w = cond (ltb w (2 ^ 31)) 0 1

unfoldable pub magnitude_of : ℕ → ℕ
magnitude_of w = cond (ltb w (2 ^ 31)) w (2 ^ 32 - w)

-- the word of a sign bit and a magnitude
unfoldable pub word_of : ℕ → ℕ → ℕ
word_of zero m = m
word_of (suc s) m = (2 ^ 32 - m) % 2 ^ 32

-- the word that a number wraps to: the number modulo 2 ^ 32. `negsuc n` is -(n + 1)
unfoldable pub wrapped : ℤ → ℕ
wrapped (pos n) = n % 2 ^ 32
wrapped (negsuc n) = 2 ^ 32 - suc (n % 2 ^ 32)
