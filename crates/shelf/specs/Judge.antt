-- A block of a file judged: alone, and in step with the stream before it.
use Rattle.std.specs.Prelude.{ℕ, zero, suc, ◌+◌, ◌-◌, ◌*◌, ◌/◌, ◌%◌, Bool, true, false, cond, List, length, ◌==◌, nat_le, nat_lt, slice_index}
use Rattle.numbers.specs.Limit.{block_bytes, block_head, block_body, block_data, block_words, no_start}
use Rattle.numbers.specs.Refusal.{accepted, block_check, block_turn, block_layout}
use Rattle.buffers.specs.Bytes.{word_from, half_from}
use Rattle.shelf.specs.Answers.{Walk, Over, To, Stepped, Off, On}
use Rattle.shelf.specs.Stream.{walk, first_from}
use Rattle.shelf.specs.Block.{sum_to}

-- All blocks but the last are full, so that byte k of the stream is in block k / 498.
abbrev pub place_of : ℕ → ℕ
place_of k = block_bytes * (k / block_data) + block_head + k % block_data

abbrev pub byte_of : List ℕ → ℕ → ℕ
byte_of f k = slice_index f (place_of k)

-- what stands in block i's head, and its sum
abbrev pub number_at : List ℕ → ℕ → ℕ
number_at f i = word_from f (block_bytes * i)

abbrev pub used_at : List ℕ → ℕ → ℕ
used_at f i = half_from f (block_bytes * i + 4)

abbrev pub first_at : List ℕ → ℕ → ℕ
first_at f i = half_from f (block_bytes * i + 6)

abbrev pub sum_at : List ℕ → ℕ → ℕ
sum_at f i = word_from f (block_bytes * i + block_body)

-- where its bytes of the stream end
abbrev pub end_at : List ℕ → ℕ → ℕ
end_at f i = block_data * i + used_at f i

-- the whole blocks of a file; whether i is the last of them; whether nothing at all follows block i
abbrev pub blocks : List ℕ → ℕ
blocks f = length f / block_bytes

abbrev pub last : List ℕ → ℕ → Bool
last f i = nat_le (blocks f) (i + 1)

abbrev pub ends : List ℕ → ℕ → Bool
ends f i = nat_le (length f) (block_bytes * (i + 1))

-- k bytes from a place on are 0
unfoldable pub zeros_from : List ℕ → (at k : ℕ) → Bool
zeros_from f at zero = true
zeros_from f at (suc k) = cond (slice_index f at == 0) (zeros_from f (at + 1) k) false

-- ALONE, after its sum: 1 to 498 bytes are used, fewer than 498 only in the last whole block; what is not used is 0; the first record begins in the used
-- bytes or in none of them; and block 0 begins with one.
unfoldable pub some_used : List ℕ → ℕ → Bool
some_used f i =
    cond (used_at f i == 0) false (cond (nat_lt block_data (used_at f i)) false (cond (used_at f i == block_data) true (last f i)))

unfoldable pub rest_zero : List ℕ → ℕ → Bool
rest_zero f i = zeros_from f (block_bytes * i + block_head + used_at f i) (500 - used_at f i)

unfoldable pub first_inside : List ℕ → ℕ → Bool
first_inside f i = cond (nat_lt (first_at f i) (used_at f i)) true (first_at f i == no_start)

unfoldable pub zero_first : List ℕ → ℕ → Bool
zero_first f i = cond (number_at f i == 0) (first_at f i == 0) true

unfoldable pub alone : List ℕ → ℕ → Bool
alone f i = cond (some_used f i) (cond (rest_zero f i) (cond (first_inside f i) (zero_first f i) false) false) false

-- 31, 32 where the number is not the one wanted, 33
unfoldable pub reason : List ℕ → (i want : ℕ) → ℕ
reason f i want =
    cond (sum_to f (block_bytes * i) block_words == sum_at f i)
    (cond (number_at f i == want) (cond (alone f i) accepted block_layout) block_turn)
    block_check

-- IN STEP, the next record beginning at p after c of them: the first record is named as the stream has it, no length is too great, and where the block is
-- short or nothing follows it no record goes on.
unfoldable pub closes : List ℕ → ℕ → Bool
closes f i = cond (nat_lt (used_at f i) block_data) true (ends f i)

unfoldable pub walked : List ℕ → ℕ → Walk → Stepped
walked f i (Over p) = Off
walked f i (To p c) = cond (closes f i) (cond (p == end_at f i) (On p c) Off) (On p c)

unfoldable pub in_step : List ℕ → (i p c : ℕ) → Stepped
in_step f i p c =
    cond (first_at f i == first_from (byte_of f) (block_data * i) (end_at f i) p) (walked f i (walk (byte_of f) (end_at f i) p c)) Off
