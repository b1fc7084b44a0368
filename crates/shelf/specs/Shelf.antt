-- THE SHELF: what writing a stream and reading a file give, on every input.
use Rattle.std.specs.Prelude.{◌≡◌, ℕ, zero, suc, ◌+◌, ◌-◌, ◌*◌, ◌/◌, ◌%◌, cond, List, [], ◌++◌, length, replicate, ◌==◌, nat_lt}
use Rattle.numbers.specs.Limit.{block_bytes, most_blocks}
use Rattle.numbers.specs.Refusal.{block_layout, payload_room}
use Rattle.shelf.specs.Answers.{Soundness, Sound, Faulty, Stepped, Off, On, Scan, Refused, Whole, Answer}
use Rattle.shelf.specs.Stream.{byte_at, fault}
use Rattle.shelf.specs.Block.{bytes_from, blocks_for, file_of}
use Rattle.shelf.specs.Judge.{byte_of, blocks, reason, in_step}

-- the answer, and what the buffer then begins with; the rest of it is 0
pub record Outcome : Type 0 where
  pub answer : Answer
  pub content : List ℕ

abbrev pub refuses : (number place : ℕ) → Outcome
refuses number place = record { answer = record { number = number; place = place; records = 0; stream = 0; file = 0 }; content = [] }

abbrev pub gives : (records stream file : ℕ) → List ℕ → Outcome
gives records stream file content =
    record { answer = record { number = 0; place = 0; records = records; stream = stream; file = file }; content = content }

abbrev pub filled : ℕ → List ℕ → List ℕ
filled room content = content ++ replicate (room - length content) 0

pub record Done (o : Outcome) (room : ℕ) (r : Answer) (buffer : List ℕ) : Type 0 where
  pub answer : r ≡ o.answer
  pub content : buffer ≡ filled room o.content

-- without room for its blocks a stream is refused for a fault of its own, else for that
unfoldable pub lacking : Soundness → Answer
lacking (Faulty i) = (refuses block_layout i).answer
lacking (Sound c) = (refuses payload_room 0).answer

-- a sound stream is cut into blocks, where there is room for them and a number for each
unfoldable pub write_sound : List ℕ → (room : ℕ) → Soundness → Outcome
write_sound s room (Faulty i) = refuses block_layout i
write_sound s room (Sound c) =
    let m = blocks_for (length s) in
    cond (nat_lt (room / block_bytes) m) (refuses payload_room 0)
    (cond (nat_lt most_blocks m) (refuses payload_room 0) (gives c (length s) (block_bytes * m) (file_of (byte_at s) (length s))))

unfoldable pub shelf_write : List ℕ → (room : ℕ) → Outcome
shelf_write s room = write_sound s room (fault (byte_at s) (length s))

-- block by block, k of them from i on, in file order; then what is left is no block
unfoldable pub onward : ℕ → Stepped → (ℕ → ℕ → Scan) → Scan
onward i Off rest = Refused block_layout i
onward i (On p c) rest = rest p c

unfoldable pub scan_by : (k : ℕ) → List ℕ → (i p c : ℕ) → Scan
scan_by zero f i p c = cond (length f % block_bytes == 0) (Whole p c) (Refused block_layout i)
scan_by (suc k) f i p c =
    cond (reason f i i == 0) (onward i (in_step f i p c) (scan_by k f (i + 1))) (Refused (reason f i i) i)

unfoldable pub scan : List ℕ → Scan
scan f = scan_by (blocks f) f 0 0 0

-- in a whole file the next record would begin where the stream ends
unfoldable pub read_scanned : List ℕ → (room : ℕ) → Scan → Outcome
read_scanned f room (Refused n i) = refuses n i
read_scanned f room (Whole n c) = cond (nat_lt room n) (refuses payload_room 0) (gives c n (length f) (bytes_from (byte_of f) 0 n))

unfoldable pub shelf_read : List ℕ → (room : ℕ) → Outcome
shelf_read f room = read_scanned f room (scan f)
