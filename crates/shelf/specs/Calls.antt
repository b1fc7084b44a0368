-- THE SHELF'S CALLS FOR C, over bytes, on every input: the number given back, and the final content of the area and of each output buffer.
use Rattle.std.specs.Prelude.{ℕ, ◌/◌, ◌%◌, min, cond, List, [], ◌∷◌, ◌==◌}
use Rattle.numbers.specs.Refusal.{area_size}
use Rattle.numbers.specs.Limit.{most_word, shelf_area}
pub use Rattle.buffers.specs.Back.{Back, back, zeros}
use Rattle.buffers.specs.Bytes.{bytes_of}
use Rattle.shelf.specs.declared.answers.Sizes.{Sizes}
use Rattle.shelf.specs.Answers.{Answer}
use Rattle.shelf.specs.Shelf.{Outcome, filled, shelf_write, shelf_read}
use Rattle.shelf.specs.Salvage.{salvage}

-- a number of 8 bytes as two words
abbrev pub high : ℕ → ℕ
high x = x / 4294967296

abbrev pub low : ℕ → ℕ
low x = x % 4294967296

-- the place, which stops at 2^32 - 1; then five numbers of 8 bytes: records, bytes of the stream, of the file, entries, bytes dropped
abbrev pub area_words : Answer → (entries dropped : ℕ) → List ℕ
area_words a entries dropped =
    min a.place most_word ∷ high a.records ∷ low a.records ∷ high a.stream ∷ low a.stream ∷ high a.file ∷ low a.file ∷ high entries ∷ low entries ∷ high dropped ∷ low dropped
    ∷ []

unfoldable pub area_of : Answer → (entries dropped : ℕ) → List ℕ
area_of a entries dropped = bytes_of (area_words a entries dropped)

-- any five numbers as an answer
abbrev pub answer_by : (number place : ℕ) → Sizes → Answer
answer_by number place s = record { number = number; place = place; records = s.records; stream = s.stream; file = s.file }

-- the area's size first: an area of another size, and the output buffer, are zero throughout
unfoldable pub called : (area room : ℕ) → Outcome → Back
called area room o =
    cond (area == shelf_area) (back o.answer.number (area_of o.answer 0 0) (filled room o.content ∷ []))
    (back area_size (zeros area) (zeros room ∷ []))

-- bim_shelf_write: the stream; bytes of the file's room and of the area. bim_shelf_read: the file; bytes of the stream's room and of the area
unfoldable pub write_call : List ℕ → (room area : ℕ) → Back
write_call s room area = called area room (shelf_write s room)

unfoldable pub read_call : List ℕ → (room area : ℕ) → Back
read_call f room area = called area room (shelf_read f room)

-- bim_shelf_salvage: the file; bytes of the new file's room, of the list's and of the area. Two output buffers, zero throughout on any refusal
unfoldable pub salvage_call : List ℕ → (room list area : ℕ) → Back
salvage_call f room list area =
    let o = salvage f room list in
    cond (area == shelf_area) (back o.answer.number (area_of o.answer o.entries o.lost) (filled room o.file ∷ filled list o.list ∷ []))
    (back area_size (zeros area) (zeros room ∷ zeros list ∷ []))
