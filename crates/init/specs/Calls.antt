-- THE CALLS FOR C, over bytes, on every input: the number given back, and the final content of the answer's area (of the reader that is init) and of
-- each output buffer.
use Rattle.std.specs.Prelude.{ℕ, ◌/◌, min, cond, List, [], ◌∷◌, eqb, length, set}
use Rattle.numbers.specs.Refusal.{area_size, no_reading}
use Rattle.numbers.specs.Limit as limit
use Rattle.numbers.specs.Limit.{most_word, init_area}
pub use Rattle.buffers.specs.Back.{Back, back, zeros}
use Rattle.buffers.specs.Bytes.{words_of, bytes_of}
use Rattle.init.specs.Read.{init_read}
use Rattle.init.specs.Write.{Writing, init_write}
use Rattle.init.specs.Write.Writing.{refused}
use Rattle.init.specs.Back as read
use Rattle.init.specs.Back.{read_back}
use Rattle.init.specs.Made.{Made, write_back}

-- a place or a count, which stops at 2^32 - 1
abbrev pub place_word : ℕ → ℕ
place_word p = min p most_word

-- the reader's answer is init: its words, of which the first is the place
unfoldable pub read_told : read.Back → Back
read_told b = back b.number (bytes_of (set b.init 0 (place_word b.place))) (b.codecs ∷ [])

-- bim_init_read: the message; bytes of codecs and of init. An init of another size, and codecs, are zero throughout
unfoldable pub read_call : List ℕ → (room init : ℕ) → Back
read_call s room init =
    cond (eqb init limit.init) (read_told (read_back room (init_read s (room / 4)))) (back area_size (zeros init) (zeros room ∷ []))

-- the writer's area: the place, which is a word's index, and the bytes written
unfoldable pub area_of : (place count : ℕ) → List ℕ
area_of place count = bytes_of (place_word place ∷ place_word count ∷ [])

unfoldable pub write_told : Made → Back
write_told m = back m.number (area_of m.place m.count) (m.message ∷ [])

-- an init of another size says nothing, and is blamed before its words are
unfoldable pub write_bytes : (init codecs given : List ℕ) (room : ℕ) → Writing
write_bytes init codecs given room =
    cond (eqb (length init) limit.init) (init_write (words_of init) (words_of codecs) given room) (refused no_reading 0)

-- bim_init_write: init, codecs and the bytes given; bytes of the message's room and of the area. An area of another size, and the message, are zero throughout
unfoldable pub write_call : (init codecs given : List ℕ) (room area : ℕ) → Back
write_call init codecs given room area =
    cond (eqb area init_area) (write_told (write_back room (write_bytes init codecs given room))) (back area_size (zeros area) (zeros room ∷ []))
