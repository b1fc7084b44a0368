-- A stream of records, by the byte at each place: a record is length, root name and root type, two bytes each, then `length` bytes.
use Rattle.std.specs.Prelude.{ℕ, zero, suc, ◌+◌, ◌-◌, ◌*◌, ◌/◌, cond, List, ◌==◌, nat_lt, slice_index}
use Rattle.numbers.specs.Limit.{most_payload, record_head, block_data, no_start}
use Rattle.shelf.specs.Answers.{Walk, Over, To, Soundness, Sound, Faulty}

-- a list of bytes by place
abbrev pub byte_at : List ℕ → ℕ → ℕ
byte_at s k = slice_index s k

-- the length of the record that begins at p, and where the next one begins
abbrev pub length_at : (ℕ → ℕ) → ℕ → ℕ
length_at b p = b p * 256 + b (p + 1)

abbrev pub next : (ℕ → ℕ) → ℕ → ℕ
next b p = p + record_head + length_at b p

-- From record to record, while a length's second byte lies before `end`: where the record that has too great a length begins; or where the next
-- record begins, and how many there are with the c before.
unfoldable pub walk_by : ℕ → (ℕ → ℕ) → (end p c : ℕ) → Walk
walk_by zero b end p c = To p c
walk_by (suc steps) b end p c =
    cond (nat_lt (p + 1) end) (cond (nat_lt most_payload (length_at b p)) (Over p) (walk_by steps b end (next b p) (c + 1))) (To p c)

-- a record has a byte at least, so that `end` steps are enough
unfoldable pub walk : (ℕ → ℕ) → (end p c : ℕ) → Walk
walk b end p c = walk_by end b end p c

-- Whether the n bytes are whole records, and how many; else the block at fault: that in which a length over the most becomes known, or the last
-- where the stream ends inside a record.
unfoldable pub judged : (n : ℕ) → Walk → Soundness
judged n (Over p) = Faulty ((p + 1) / block_data)
judged n (To p c) = cond (p == n) (Sound c) (Faulty ((n - 1) / block_data))

unfoldable pub fault : (ℕ → ℕ) → (n : ℕ) → Soundness
fault b n = judged n (walk b n 0 0)

-- What a block that has the bytes from lo up to hi names as its first record: p is where a record begins whose length's second byte is not before lo, so
-- that the first to begin from lo on is it or the next.
abbrev pub named : (lo hi p : ℕ) → ℕ
named lo hi p = cond (nat_lt p hi) (p - lo) no_start

unfoldable pub first_from : (ℕ → ℕ) → (lo hi p : ℕ) → ℕ
first_from b lo hi p = cond (nat_lt p lo) (named lo hi (next b p)) (named lo hi p)
