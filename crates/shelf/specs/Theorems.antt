-- What is proved of the shelf. A list of records has one file, and a file one list.
use Rattle.std.specs.Prelude.{◌≡◌, ℕ, ◌/◌, ◌<◌, ◌≤◌, List, [], ◌∷◌, ◌++◌, length, slice_index}
use Rattle.numbers.specs.Limit.{most_payload, block_bytes, most_blocks}
use Rattle.numbers.specs.Refusal.{block_layout}
use Rattle.buffers.specs.Bytes.{two}
use Rattle.shelf.specs.Answers.{Soundness, Sound, Faulty, Scan, Refused, Whole}
use Rattle.shelf.specs.Stream.{byte_at, fault}
use Rattle.shelf.specs.Block.{blocks_for, file_of}
use Rattle.shelf.specs.Shelf.{refuses, gives, shelf_write, shelf_read}

-- a record, and a list of them as a stream
pub record Entry : Type 0 where
  pub name : ℕ
  pub type : ℕ
  pub payload : List ℕ

abbrev pub entry_bytes : Entry → List ℕ
entry_bytes r = two (length r.payload) ++ two r.name ++ two r.type ++ r.payload

unfoldable pub stream_of : List Entry → List ℕ
stream_of [] = []
stream_of (r ∷ rs) = entry_bytes r ++ stream_of rs

abbrev pub Octets : List ℕ → Type 0
Octets s = (i : ℕ) → slice_index s i < 256

pub record Right (r : Entry) : Type 0 where
  pub name : r.name < 65536
  pub type : r.type < 65536
  pub short : length r.payload ≤ most_payload
  pub bytes : Octets r.payload

pub data AllRight : List Entry → Type 0 where
  none : AllRight []
  one : {r : Entry} {rs : List Entry} → Right r → AllRight rs → AllRight (r ∷ rs)

-- what the reader says of a stream's own verdict
unfoldable pub verdict : (n : ℕ) → Soundness → Scan
verdict n (Sound c) = Whole n c
verdict n (Faulty i) = Refused block_layout i

-- (a) a list of records is written, given room, and its file reads back to the same records, of which there are as many
abbrev pub WriteRead : Type 0
WriteRead =
    (rs : List Entry) (room back : ℕ) → AllRight rs → blocks_for (length (stream_of rs)) ≤ room / block_bytes → blocks_for (length (stream_of rs)) ≤ most_blocks → length (stream_of rs) ≤ back
    → (shelf_write (stream_of rs) room ≡ gives (length rs) (length (stream_of rs)) (length (file_of (byte_at (stream_of rs)) (length (stream_of rs)))) (file_of (byte_at (stream_of rs)) (length (stream_of rs))))
    × (shelf_read (file_of (byte_at (stream_of rs)) (length (stream_of rs))) back
    ≡ gives (length rs) (length (stream_of rs)) (length (file_of (byte_at (stream_of rs)) (length (stream_of rs)))) (stream_of rs))

-- (b) a file that is accepted is the writer's file of its stream
abbrev pub ReadWrite : Type 0
ReadWrite = (f s : List ℕ) (room c n : ℕ) → Octets f → shelf_read f room ≡ gives c n (length f) s → shelf_write s (length f) ≡ gives c n (length f) f

-- (d) what the writer refuses for its layout, the reader refuses at the same block of the file that is cut from that stream
abbrev pub RefusedAlike : Type 0
RefusedAlike =
    (s : List ℕ) (i room back : ℕ) → fault (byte_at s) (length s) ≡ Faulty i
    → (shelf_write s room ≡ refuses block_layout i) × (shelf_read (file_of (byte_at s) (length s)) back ≡ refuses block_layout i)

-- a stream has one list of records
abbrev pub OneList : Type 0
OneList = (rs ts : List Entry) → stream_of rs ≡ stream_of ts → rs ≡ ts
