-- Words and names as big-endian bytes, and bytes as words.
use Rattle.std.specs.Prelude.{ℕ, ◌+◌, ◌*◌, ◌/◌, ◌%◌, List, [], ◌∷◌, ◌++◌, length, drop, get_or}

-- the word that four bytes are, the most significant first; and the bytes of a word, and of a name
abbrev pub word : (a b c d : ℕ) → ℕ
word a b c d = a * 16777216 + b * 65536 + c * 256 + d

abbrev pub four : ℕ → List ℕ
four w = w / 16777216 ∷ w / 65536 % 256 ∷ w / 256 % 256 ∷ w % 256 ∷ []

abbrev pub two : ℕ → List ℕ
two n = n / 256 ∷ n % 256 ∷ []

-- the word of the four bytes from a place on, and the number of the two
abbrev pub word_from : List ℕ → ℕ → ℕ
word_from s at = word (get_or s at 0) (get_or s (at + 1) 0) (get_or s (at + 2) 0) (get_or s (at + 3) 0)

abbrev pub half_from : List ℕ → ℕ → ℕ
half_from s at = get_or s at 0 * 256 + get_or s (at + 1) 0

-- the whole words of bytes, one after another; what is left of a word is left out
unfoldable pub words_of : List ℕ → List ℕ
words_of [] = []
words_of (a ∷ []) = []
words_of (a ∷ b ∷ []) = []
words_of (a ∷ b ∷ c ∷ []) = []
words_of (a ∷ b ∷ c ∷ d ∷ s) = word a b c d ∷ words_of s

-- each number of a list spelled, one after another
unfoldable pub spelled : (ℕ → List ℕ) → List ℕ → List ℕ
spelled f [] = []
spelled f (x ∷ l) = f x ++ spelled f l

abbrev pub bytes_of : List ℕ → List ℕ
bytes_of = spelled four

-- a buffer with the words' bytes at its front
abbrev pub stored : (words s : List ℕ) → List ℕ
stored words s = bytes_of words ++ drop (4 * length words) s

abbrev pub names_of : List ℕ → List ℕ
names_of = spelled two
