-- The entries' meanings, over words and bytes, on every input: `reading` and `writing`, and what each leaves in the answer and in
-- every lent buffer.
use Rattle.std.specs.Prelude.{ℕ, zero, suc, ◌+◌, ◌-◌, ◌*◌, ◌/◌, ◌%◌, min, Bool, true, false, cond, List, [], ◌∷◌, ◌++◌, reverse, length, get_or, replicate, eqb, ltb, leb}
use Rattle.numbers.specs.Refusal as refusal
use Rattle.numbers.specs.Refusal.{payload_size, left_over, no_reading, payload_room, write_mode, text_bytes}
use Rattle.numbers.specs.Kind as kinds
use Rattle.numbers.specs.Limit.{most_events, most_name, most_payload, parties}
use Rattle.numbers.specs.Mode as modes
use Rattle.numbers.specs.Mode.{never_byte, optional_byte}
use Rattle.wire.specs.Res.{Res, got, fault, ◌>>◌, at_most}
use Rattle.wire.specs.Bits.{bit_at}
use Rattle.table.specs.First.{Verdict}
use Rattle.table.specs.First.Verdict.{right, wrong}
use Rattle.table.specs.Valid.{verdict}
use Rattle.table.specs.Rows.{table_of, held_of}
use Rattle.model.specs.Model.{Event, Plan, Nodes, Path, Answer, events, texts, table_in, rooted}
use Rattle.model.specs.Model.Answer.{given, refused}
use Rattle.model.specs.Items.{Lengths, Mode}
use Rattle.model.specs.Read.{Room, read}
use Rattle.model.specs.Write.{Bare, Out, write}
use Rattle.model.specs.Pack.{pack}

-- the mode, its number and its byte
abbrev pub mode : Lengths → Bool → Mode
mode h c = record { lengths = h; casting = c }

-- of length coding; has_type_casting adds 10 hex to the byte and 4 to the number
unfoldable pub lengths_number : Lengths → ℕ
lengths_number Lengths.never = modes.never
lengths_number Lengths.optional = modes.optional
lengths_number Lengths.always = modes.always

unfoldable pub mode_byte : Mode → ℕ
mode_byte m = never_byte + (optional_byte - never_byte) * lengths_number m.lengths + cond m.casting modes.casting_byte 0

unfoldable pub mode_number : Mode → ℕ
mode_number m = lengths_number m.lengths + cond m.casting modes.casting 0

-- the six modes; the last three only for a table with derivations
abbrev pub plain_modes : List Mode
plain_modes = mode Lengths.never false ∷ mode Lengths.optional false ∷ mode Lengths.always false ∷ []

abbrev pub cast_modes : List Mode
cast_modes = mode Lengths.never true ∷ mode Lengths.optional true ∷ mode Lengths.always true ∷ []

unfoldable pub modes_for : (derivations : ℕ) → List Mode
modes_for zero = plain_modes
modes_for (suc n) = plain_modes ++ cast_modes

-- the mode that has this byte or number; else refused with e
unfoldable pub mode_by : (Mode → ℕ) → List Mode → ℕ → ℕ → Res Mode
mode_by f [] x e = fault e
mode_by f (m ∷ l) x e = cond (eqb x (f m)) (got m) (mode_by f l x e)

-- 3, then 4
unfoldable pub mode_of : ℕ → List ℕ → Res Mode
mode_of derivations s = do
  at_most 1 (length s) payload_size
  at_most (length s) most_payload payload_size
  mode_by mode_byte (modes_for derivations) (get_or s 0 0) refusal.mode_byte

-- n bits from at are 0; what is left after the root: fewer than 8 bits, all 0
unfoldable pub zeros : (ℕ → ℕ) → ℕ → ℕ → Bool
zeros b at zero = true
zeros b at (suc n) = cond (eqb (b at) 0) (zeros b (at + 1) n) false

unfoldable pub padding : List ℕ → ℕ → Bool
padding s q = cond (ltb (8 * length s - q) 8) (zeros (bit_at s) q (8 * length s - q)) false

-- what is read and how many bits were used; or number, place and path, the outermost open element first
pub data Reply : Type 0 where
  accepted : Mode → Nodes → ℕ → Reply
  declined : (number place : ℕ) → Path → Reply

-- after the root: what is left is padding
unfoldable pub padded : Bool → Mode → Nodes → ℕ → Reply
padded true mode ns q = accepted mode ns q
padded false mode ns q = declined left_over q []

unfoldable pub replied : (ℕ → Bool) → Mode → Answer → Reply
replied pads mode (given ns q) = padded (pads q) mode ns q
replied pads mode (refused n p π) = declined n p (reverse π)

-- the root at bit 8, where the mode byte is one of the three
unfoldable pub root_in : (ℕ → Bool) → (Bool → Plan) → List ℕ → Room → Mode → Reply
root_in held P s room m = replied (padding s) m (read (bit_at s) m.lengths held (P m.casting) room [] (8 * length s) 8)

unfoldable pub in_mode : Res Mode → (Mode → Reply) → Reply
in_mode (got mode) k = k mode
in_mode (fault n) k = declined n 0 []

-- the plan goes by whether type codes are sent
unfoldable pub payload : (ℕ → Bool) → (Bool → Plan) → ℕ → List ℕ → Room → Reply
payload held P derivations s room = in_mode (mode_of derivations s) (root_in held P s room)

-- what every entry asks: of the root, then of the party
unfoldable pub asked : (types party name type : ℕ) → Res Unit
asked types party name type = do
  at_most (suc type) types refusal.root
  at_most name most_name refusal.root
  at_most (suc party) parties refusal.party

-- the room that lent event words and text bytes are
abbrev pub room_of : ℕ → ℕ → Room
room_of words bytes = record { slots = min (words / 4) most_events; bytes = bytes }

unfoldable pub after_asked : Res Unit → Reply → Reply
after_asked (got u) r = r
after_asked (fault n) r = declined n 0 []

unfoldable pub after_verdict : Verdict → Reply → Reply
after_verdict right r = r
after_verdict (wrong i) r = declined refusal.table i []

-- THE READING: table words, party, root name, root type, payload bytes, lent event words, lent text bytes (both as numbers)
unfoldable pub reading : List ℕ → ℕ → ℕ → ℕ → List ℕ → ℕ → ℕ → Reply
reading l party name type s words bytes =
    after_verdict (verdict l) (after_asked (asked (table_of l).types party name type) (payload (held_of l party) (λ casting. rooted (table_in casting (table_of l)) name type) (table_of l).derivations s (room_of words bytes)))

-- what the host gets: the answer, and the final content of the lent events and texts
pub record Outcome : Type 0 where
  pub number : ℕ
  pub place : ℕ
  pub mode : ℕ
  pub events : ℕ
  pub text : ℕ
  pub bits : ℕ
  pub path : Path

unfoldable pub event_words : List Event → List ℕ
event_words [] = []
event_words (e ∷ L) = e.kind ∷ e.p ∷ e.q ∷ e.bits ∷ event_words L

-- a buffer of n with l at its start, and zeros after it
unfoldable pub filled : ℕ → List ℕ → List ℕ
filled n l = l ++ replicate (n - length l) 0

abbrev pub declines : ℕ → ℕ → Path → Outcome
declines n p π = record { number = n; place = p; mode = 0; events = 0; text = 0; bits = 0; path = π }

abbrev pub accepts : Mode → ℕ → ℕ → ℕ → Outcome
accepts mode events text bits = record { number = 0; place = 0; mode = mode_number mode; events = events; text = text; bits = bits; path = [] }

unfoldable pub outcome : Reply → Outcome
outcome (accepted mode ns q) = accepts mode (length (events ns)) (length (texts ns)) q
outcome (declined n p π) = declines n p π

unfoldable pub events_left : ℕ → Reply → List ℕ
events_left words (accepted mode ns q) = filled words (event_words (events ns))
events_left words (declined n p π) = replicate words 0

unfoldable pub texts_left : ℕ → Reply → List ℕ
texts_left bytes (accepted mode ns q) = filled bytes (texts ns)
texts_left bytes (declined n p π) = replicate bytes 0

-- Writing. The payload and its bits before padding; or number and place. The path is empty
pub data Made : Type 0 where
  made : (payload : List ℕ) (bits : ℕ) → Made
  unmade : (number place : ℕ) → Made

-- n events of the list's words, from event i on; the fourth word is ignored
abbrev pub event_at : List ℕ → ℕ → Bare
event_at l i = record { kind = get_or l (4 * i) 0; p = get_or l (4 * i + 1) 0; q = get_or l (4 * i + 2) 0 }

unfoldable pub events_from : List ℕ → ℕ → ℕ → List Bare
events_from l i zero = []
events_from l i (suc n) = event_at l i ∷ events_from l (i + 1) n

-- the room
unfoldable pub roomed : ℕ → Mode → List ℕ → Made
roomed room mode w = cond (leb (1 + (length w + 7) / 8) (min room most_payload)) (made (mode_byte mode ∷ pack w) (8 + length w)) (unmade payload_room 0)

-- of n events: the index of the one at fault; no event may be left over; then no text
unfoldable pub spent : ℕ → Out → (List ℕ → Made) → Made
spent n (Out.wrote w [] []) k = k w
spent n (Out.wrote w [] (x ∷ U)) k = unmade text_bytes n
spent n (Out.wrote w (e ∷ M) U) k = unmade (cond (eqb e.kind kinds.blank) refusal.blank no_reading) (n - suc (length M))
spent n (Out.refused e left) k = unmade e (n - left)

-- the mode that is asked for
unfoldable pub mode_asked : (derivations mode : ℕ) → Res Mode
mode_asked derivations n = mode_by mode_number (modes_for derivations) n write_mode

-- the list's shape: whole events, at most most_events of them
unfoldable pub shaped : List ℕ → Made → Made
shaped l m = cond (eqb (length l % 4) 0) (cond (leb (length l / 4) most_events) m (unmade no_reading (length l / 4))) (unmade no_reading (length l / 4))

unfoldable pub written : (ℕ → Bool) → Plan → Mode → List Bare → List ℕ → ℕ → Made
written held P m M T room = spent (length M) (write m.lengths held P M T) (roomed room m)

unfoldable pub or_unmade : {A : Type 0} → Res A → (A → Made) → Made
or_unmade (got a) k = k a
or_unmade (fault n) k = unmade n 0

unfoldable pub verdict_made : Verdict → Made → Made
verdict_made right r = r
verdict_made (wrong i) r = unmade refusal.table i

-- THE WRITING: table words, party, root name, root type, mode, event words, text bytes, lent payload bytes (a number)
unfoldable pub writing : List ℕ → ℕ → ℕ → ℕ → ℕ → List ℕ → List ℕ → ℕ → Made
writing l party name type mode events texts room =
    verdict_made (verdict l)
    (or_unmade (asked (table_of l).types party name type) (λ u.
    or_unmade (mode_asked (table_of l).derivations mode) (λ m.
    shaped events (written (held_of l party) (rooted (table_in m.casting (table_of l)) name type) m (events_from events 0 (length events / 4)) texts room))))

-- what the host gets: the answer (mode asked, all events and texts of the list), and the final content of the lent payload
unfoldable pub outcome_made : ℕ → ℕ → ℕ → Made → Outcome
outcome_made mode events text (made s bits) = record { number = 0; place = 0; mode = mode; events = events; text = text; bits = bits; path = [] }
outcome_made mode events text (unmade n p) = declines n p []

unfoldable pub payload_left : ℕ → Made → List ℕ
payload_left room (made s bits) = filled room s
payload_left room (unmade n p) = replicate room 0
