-- THE SALVAGE of a damaged file: what of it is kept, and the list of what is dropped, on every input.
use Rattle.std.specs.Prelude.{ℕ, zero, suc, ◌+◌, ◌-◌, ◌*◌, ◌/◌, ◌%◌, min, max, cond, List, [], ◌∷◌, ◌++◌, length, ◌==◌, nat_le, nat_lt}
use Rattle.numbers.specs.Limit.{block_bytes, block_data, no_start, most_word, most_blocks, dropped}
use Rattle.numbers.specs.Refusal.{block_layout, payload_room}
use Rattle.buffers.specs.Bytes.{bytes_of}
use Rattle.shelf.specs.Answers.{Stepped, Off, On, Answer}
use Rattle.shelf.specs.Stream.{byte_at, next, walk}
use Rattle.shelf.specs.Block.{bytes_from, blocks_for, file_of}
use Rattle.shelf.specs.Judge.{byte_of, blocks, number_at, first_at, end_at, reason, walked, in_step}

-- Before a block: the number that must follow, or any after a bad block and at the file's beginning; and the first record's start that was named since,
-- the next one's, and how many were passed, or none: then reading is lost.
pub data Turn : Type 0 where
  any : Turn
  only : ℕ → Turn

pub data Known : Type 0 where
  lost : Known
  from : (start next count : ℕ) → Known

pub data Judged : Type 0 where
  bad : (reason : ℕ) → Judged
  good : Known → Judged

unfoldable pub wanted : List ℕ → ℕ → Turn → ℕ
wanted f i any = number_at f i
wanted f i (only n) = n

unfoldable pub stepped : (start : ℕ) → Stepped → Judged
stepped start Off = bad block_layout
stepped start (On p c) = good (from start p c)

-- lost, the first record that a block names is taken at its word; else the block is in step, as the reader has it
unfoldable pub taken : List ℕ → ℕ → Known → Judged
taken f i (from start p c) = stepped start (in_step f i p c)
taken f i lost =
    let start = block_data * i + first_at f i in
    cond (first_at f i == no_start) (good lost) (stepped start (walked f i (walk (byte_of f) (end_at f i) start 0)))

unfoldable pub judge : List ℕ → ℕ → Turn → Known → Judged
judge f i turn known = cond (reason f i (wanted f i turn) == 0) (taken f i known) (bad (reason f i (wanted f i turn)))

-- A STRETCH of good blocks, those from `first` up to `last`, whose bytes stand at their places of the file: kept are the records from `start` up to `stop`,
-- `count` of them, and `reason` is that of the bad block behind it, 0 where none is.
pub record Stretch : Type 0 where
  pub first : ℕ
  pub last : ℕ
  pub start : ℕ
  pub stop : ℕ
  pub count : ℕ
  pub reason : ℕ

-- where the last record that ends by `end` ends, and how many there are
pub record Stop : Type 0 where
  pub place : ℕ
  pub count : ℕ

unfoldable pub kept_by : ℕ → (ℕ → ℕ) → (end p c : ℕ) → Stop
kept_by zero b end p c = record { place = p; count = c }
kept_by (suc steps) b end p c =
    cond (nat_lt (p + 1) end) (cond (nat_le (next b p) end) (kept_by steps b end (next b p) (c + 1)) (record { place = p; count = c }))
    (record { place = p; count = c })

unfoldable pub ending : List ℕ → (first last : ℕ) → ℕ
ending f first last = cond (nat_lt first last) (end_at f (last - 1)) (block_data * last)

unfoldable pub stretch : List ℕ → (first last : ℕ) → Known → (reason : ℕ) → Stretch
stretch f first last lost reason =
    let end = ending f first last in record { first = first; last = last; start = end; stop = end; count = 0; reason = reason }
stretch f first last (from start p c) reason =
    let end = ending f first last in
    let kept = kept_by end (byte_of f) end start 0 in
    record { first = first; last = last; start = start; stop = kept.place; count = kept.count; reason = reason }

-- block by block, k of them from i on; what is left behind the blocks is a bad block
unfoldable pub onward : List ℕ → (first i : ℕ) → Known → Judged → (ℕ → Turn → Known → List Stretch) → List Stretch
onward f first i known (bad r) rest = stretch f first i known r ∷ rest (i + 1) any lost
onward f first i known (good now) rest = rest first (only (number_at f i + 1)) now

unfoldable pub stretches_by : (k : ℕ) → List ℕ → (i first : ℕ) → Turn → Known → List Stretch
stretches_by zero f i first turn known = stretch f first i known (cond (length f % block_bytes == 0) 0 block_layout) ∷ []
stretches_by (suc k) f i first turn known = onward f first i known (judge f i turn known) (stretches_by k f (i + 1))

unfoldable pub stretches : List ℕ → List Stretch
stretches f = stretches_by (blocks f) f 0 0 any lost

-- what is kept
unfoldable pub kept_of : List ℕ → List Stretch → List ℕ
kept_of f [] = []
kept_of f (s ∷ ss) = bytes_from (byte_of f) s.start (s.stop - s.start) ++ kept_of f ss

unfoldable pub count_of : List Stretch → ℕ
count_of [] = 0
count_of (s ∷ ss) = s.count + count_of ss

-- THE LIST: of the bytes from lo up to hi those before the first record and those behind the last; an entry is block, reason, bytes
abbrev pub dropped_in : (lo hi start stop : ℕ) → ℕ
dropped_in lo hi start stop = (min hi start - lo) + (hi - max lo stop)

pub record Entry : Type 0 where
  pub block : ℕ
  pub reason : ℕ
  pub bytes : ℕ

unfoldable pub good_entry : (i bytes : ℕ) → List Entry
good_entry i zero = []
good_entry i (suc n) = record { block = i; reason = 0; bytes = suc n } ∷ []

unfoldable pub bad_entry : (i reason : ℕ) → List Entry
bad_entry i zero = []
bad_entry i (suc r) = record { block = i; reason = suc r; bytes = 0 } ∷ []

unfoldable pub good_entries : (k : ℕ) → List ℕ → Stretch → ℕ → List Entry
good_entries zero f s i = []
good_entries (suc k) f s i = good_entry i (dropped_in (block_data * i) (end_at f i) s.start s.stop) ++ good_entries k f s (i + 1)

unfoldable pub entries_of : List ℕ → List Stretch → List Entry
entries_of f [] = []
entries_of f (s ∷ ss) = good_entries (s.last - s.first) f s s.first ++ bad_entry s.last s.reason ++ entries_of f ss

unfoldable pub bytes_dropped : List Entry → ℕ
bytes_dropped [] = 0
bytes_dropped (e ∷ es) = e.bytes + bytes_dropped es

-- as words, of 4 bytes each; a block past 2^32 - 1 is told as that
unfoldable pub entry_words : List Entry → List ℕ
entry_words [] = []
entry_words (e ∷ es) = min e.block most_word ∷ e.reason ∷ e.bytes ∷ entry_words es

-- the answer with entries and bytes dropped, and what file and list begin with; the rest of both is 0
pub record Salvaged : Type 0 where
  pub answer : Answer
  pub entries : ℕ
  pub lost : ℕ
  pub file : List ℕ
  pub list : List ℕ

abbrev pub no_room : Salvaged
no_room = record { answer = record { number = payload_room; place = 0; records = 0; stream = 0; file = 0 }; entries = 0; lost = 0; file = []; list = [] }

abbrev pub salvaged : (count n : ℕ) → List ℕ → List Entry → Salvaged
salvaged count n s es =
    record {
      answer = record { number = 0; place = 0; records = count; stream = n; file = block_bytes * blocks_for n };
      entries = length es;
      lost = bytes_dropped es;
      file = file_of (byte_at s) n;
      list = bytes_of (entry_words es);
    }

-- room is judged last, for the new file and the list alike
unfoldable pub salvage : List ℕ → (room list : ℕ) → Salvaged
salvage f room list =
    let ss = stretches f in
    let s = kept_of f ss in
    let es = entries_of f ss in
    cond (nat_lt (room / block_bytes) (blocks_for (length s))) no_room
    (cond (nat_lt most_blocks (blocks_for (length s))) no_room
    (cond (nat_lt (list / dropped) (length es)) no_room (salvaged (count_of ss) (length s) s es)))
