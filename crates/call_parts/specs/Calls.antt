-- THE CALLS FOR C, over bytes, on every input: the number given back, and the final content of the area and of each
-- output buffer.
use Rattle.std.specs.Prelude.{ℕ, zero, suc, ◌+◌, ◌*◌, ◌/◌, ◌%◌, cond, List, [], ◌∷◌, map, eqb, ltb, length, get_or, set}
use Rattle.numbers.specs.Refusal as refusal
use Rattle.numbers.specs.Refusal.{no_reading, area_size}
use Rattle.numbers.specs.Limit as limit
use Rattle.table.specs.First.{Verdict, first, ◌then◌}
use Rattle.table.specs.First.Verdict.{right, wrong}
use Rattle.table.specs.Valid.{header_words, verdict}
use Rattle.table.specs.Words.{type_at, types_in}
use Rattle.table.specs.Rows.{table_of}
use Rattle.table.specs.Setting.{marked}
use Rattle.model.specs.Model.{events}
use Rattle.model.specs.Whole.{Outcome, declines, filled, asked}
use Rattle.model.specs.Whole.{Reply, outcome, reading, after_verdict, event_words, texts_left}
use Rattle.model.specs.Whole.{Made, outcome_made, writing, verdict_made, or_unmade, mode_asked, payload_left}
use Rattle.model.specs.Whole.Reply.{accepted, declined}
use Rattle.model.specs.Whole.Made.{unmade}
pub use Rattle.buffers.specs.Back.{Back, back, zeros}
use Rattle.buffers.specs.Bytes.{words_of, bytes_of}
use Rattle.call_parts.specs.Area.{area_of, area_bytes}

-- its size first: an area of another size, and the output buffers, are zero throughout; else the answer is in the area
unfoldable pub lent : (area : ℕ) (sizes : List ℕ) → Outcome → List (List ℕ) → Back
lent area sizes o buffers =
    cond (eqb area area_bytes) (back o.number (area_of o) buffers) (back area_size (zeros area) (map zeros sizes))

-- The table's bytes judged: where they are no multiple of 4, the header of the whole words, and then the length.
unfoldable pub table_verdict : List ℕ → Verdict
table_verdict t =
    cond (eqb (length t % 4) 0) (verdict (words_of t)) (first 0 (header_words (words_of t)) then wrong (length t / 4))

abbrev pub judged : Verdict → Outcome
judged right = declines 0 0 []
judged (wrong i) = declines refusal.table i []

-- bim_check_table: table; bytes of the area
unfoldable pub check_table : List ℕ → ℕ → Back
check_table t area = lent area [] (judged (table_verdict t)) []

-- The reading of bytes: e / 4 words are lent for events, so that there is room for e / limit.event of them, at most
-- most_events.
unfoldable pub read_bytes : List ℕ → ℕ → ℕ → ℕ → List ℕ → ℕ → ℕ → Reply
read_bytes t party name type s e x = after_verdict (table_verdict t) (reading (words_of t) party name type s (e / 4) x)

-- the events as bytes, and zeros
unfoldable pub events_back : ℕ → Reply → List ℕ
events_back e (accepted mode ns q) = filled e (bytes_of (event_words (events ns)))
events_back e (declined n p π) = zeros e

-- bim_read: table, party, root name, root type, payload; bytes of events, of texts and of the area
unfoldable pub read_call : List ℕ → ℕ → ℕ → ℕ → List ℕ → ℕ → ℕ → ℕ → Back
read_call t party name type s e x area =
    let r = read_bytes t party name type s e x in
    lent area (e ∷ x ∷ []) (outcome r) (events_back e r ∷ texts_left x r ∷ [])

-- The writing of a list's bytes: where they are no whole events, no_reading at the number of them that are whole, after
-- table, root, party and mode.
unfoldable pub unlisted : List ℕ → ℕ → ℕ → ℕ → ℕ → ℕ → Made
unlisted l party name type mode n =
    verdict_made (verdict l)
    (or_unmade (asked (table_of l).types party name type) (λ u. or_unmade (mode_asked (table_of l).derivations mode) (λ m. unmade no_reading n)))

unfoldable pub write_list : List ℕ → ℕ → ℕ → ℕ → ℕ → List ℕ → List ℕ → ℕ → Made
write_list l party name type mode e x room =
    cond (eqb (length e % limit.event) 0) (writing l party name type mode (words_of e) x room)
    (unlisted l party name type mode (length e / limit.event))

unfoldable pub write_bytes : List ℕ → ℕ → ℕ → ℕ → ℕ → List ℕ → List ℕ → ℕ → Made
write_bytes t party name type mode e x room = verdict_made (table_verdict t) (write_list (words_of t) party name type mode e x room)

-- bim_write: table, party, root name, root type, mode, events, texts; bytes of the payload and of the area. bim_write_lengths has
-- no mode: it is this at `always`
unfoldable pub write_call : List ℕ → ℕ → ℕ → ℕ → ℕ → List ℕ → List ℕ → ℕ → ℕ → Back
write_call t party name type mode e x room area =
    let m = write_bytes t party name type mode e x room in
    lent area (room ∷ []) (outcome_made mode (length e / limit.event) (length x) m) (payload_left room m ∷ [])

-- Setting a mark in a table's bytes: the table, the type, the party.
unfoldable pub set_by : List ℕ → (party type : ℕ) → Verdict → Outcome
set_by t party type (wrong i) = declines refusal.table i []
set_by t party type right =
    cond (ltb type (types_in (words_of t))) (cond (ltb party limit.parties) (declines 0 0 []) (declines refusal.party 0 []))
    (declines refusal.root 0 [])

unfoldable pub set_outcome : List ℕ → (party type : ℕ) → Outcome
set_outcome t party type = set_by t party type (table_verdict t)

-- of the type's held word the lowest byte changes, and no other byte of the table; on a refusal none
unfoldable pub table_left : List ℕ → (party type mark number : ℕ) → List ℕ
table_left t party type mark zero = let i = 4 * type_at type + 3 in set t i (marked party mark (get_or t i 0))
table_left t party type mark (suc n) = t

-- bim_set_held: table, party, type, mark; bytes of the area. The table, which is the output buffer, is as it was where the area has another size too
unfoldable pub set_call : List ℕ → ℕ → ℕ → ℕ → ℕ → Back
set_call t party type mark area =
    let o = set_outcome t party type in
    cond (eqb area area_bytes) (back o.number (area_of o) (table_left t party type mark o.number ∷ [])) (back area_size (zeros area) (t ∷ []))
