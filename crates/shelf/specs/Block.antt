-- A block of a shelf file, and the file of a stream.
use Rattle.std.specs.Prelude.{ℕ, zero, suc, ◌+◌, ◌-◌, ◌*◌, ◌/◌, ◌%◌, cond, List, [], ◌∷◌, ◌++◌, length, replicate, nat_lt}
use Rattle.numbers.specs.Limit.{block_data, block_words, no_start}
use Rattle.buffers.specs.Bytes.{four, two, word_from}
use Rattle.shelf.specs.Answers.{Walk, Over, To}
use Rattle.shelf.specs.Stream.{walk, first_from}

-- k bytes from a place on
unfoldable pub bytes_from : (ℕ → ℕ) → (at k : ℕ) → List ℕ
bytes_from b at zero = []
bytes_from b at (suc k) = bytes_from b at k ++ b (at + k) ∷ []

-- the sum of k words from a place on, modulo 2^32
unfoldable pub sum_to : List ℕ → (at k : ℕ) → ℕ
sum_to s at zero = 0
sum_to s at (suc k) = (sum_to s at k + word_from s (at + 4 * k)) % 4294967296

-- number, used bytes, first record; the data; zeros, two of them always; the sum of what stands before it
abbrev pub head_of : (number used first : ℕ) → List ℕ
head_of number used first = four number ++ two used ++ two first

unfoldable pub body_of : (number first : ℕ) → List ℕ → List ℕ
body_of number first held = head_of number (length held) first ++ held ++ replicate (500 - length held) 0

unfoldable pub block : (number first : ℕ) → List ℕ → List ℕ
block number first held = body_of number first held ++ four (sum_to (body_of number first held) 0 block_words)

-- block i of a stream of n bytes has those from 498 i on: 498 of them, or what is left
abbrev pub used_in : (n i : ℕ) → ℕ
used_in n i = cond (nat_lt (n - block_data * i) block_data) (n - block_data * i) block_data

-- where a length before is too great nothing can be named
unfoldable pub name_after : (ℕ → ℕ) → (lo hi : ℕ) → Walk → ℕ
name_after b lo hi (Over p) = no_start
name_after b lo hi (To p c) = first_from b lo hi p

unfoldable pub first_in : (ℕ → ℕ) → (n i : ℕ) → ℕ
first_in b n i = let lo = block_data * i in name_after b lo (lo + used_in n i) (walk b lo 0 0)

unfoldable pub block_in : (ℕ → ℕ) → (n i : ℕ) → List ℕ
block_in b n i = block i (first_in b n i) (bytes_from b (block_data * i) (used_in n i))

-- the first k blocks
unfoldable pub cut : (ℕ → ℕ) → (n k : ℕ) → List ℕ
cut b n zero = []
cut b n (suc k) = cut b n k ++ block_in b n k

abbrev pub blocks_for : ℕ → ℕ
blocks_for n = (n + 497) / block_data

abbrev pub file_of : (ℕ → ℕ) → (n : ℕ) → List ℕ
file_of b n = cut b n (blocks_for n)
