-- Numbers of 8 big-endian bytes.
use Rattle.std.specs.Prelude.{ℕ, zero, suc, ◌+◌, ◌*◌, ◌/◌, ◌%◌, List, [], ◌∷◌, get_or, drop}
use Rattle.buffers.specs.Bytes.{spelled}

-- the number that eight bytes are, the most significant first; and the bytes of a number
abbrev pub number : (a b c d e f g h : ℕ) → ℕ
number a b c d e f g h = a * 72057594037927936 + b * 281474976710656 + c * 1099511627776 + d * 4294967296 + e * 16777216 + f * 65536 + g * 256 + h

abbrev pub eight : ℕ → List ℕ
eight n =
    n / 72057594037927936 ∷ n / 281474976710656 % 256 ∷ n / 1099511627776 % 256 ∷ n / 4294967296 % 256
    ∷ n / 16777216 % 256 ∷ n / 65536 % 256 ∷ n / 256 % 256 ∷ n % 256 ∷ []

-- the number of the eight bytes from a place on
abbrev pub number_from : List ℕ → ℕ → ℕ
number_from s at =
    number (get_or s at 0) (get_or s (at + 1) 0) (get_or s (at + 2) 0) (get_or s (at + 3) 0)
    (get_or s (at + 4) 0) (get_or s (at + 5) 0) (get_or s (at + 6) 0) (get_or s (at + 7) 0)

-- the first n numbers of bytes; and the bytes of numbers
unfoldable pub numbers_of : ℕ → List ℕ → List ℕ
numbers_of zero s = []
numbers_of (suc n) s = number_from s 0 ∷ numbers_of n (drop 8 s)

abbrev pub bytes_of : List ℕ → List ℕ
bytes_of = spelled eight
