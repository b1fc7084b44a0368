-- THE THREE DEMANDS OF THE CALLS THAT A HOST MAKES, over bytes: tables, payloads, events, texts and areas. The calls'
-- contracts (bim/src/lib.rt, bits.rt) are equations with `check_table`, `read_call`, `write_call`, `set_call`, `bits_call`
-- (call_parts/specs/Calls, bim/specs/Bits), so that what is said of these is said of the calls. proofs/Demands.antt has the
-- theorems `demand1`, `demand2`, `demand3`. An area of another size than area_bytes (bits_area of the bit reader's calls) is
-- demand 1's: nothing is accepted with it.
use Rattle.std.specs.Prelude.{ℕ, zero, suc, ◌+◌, ◌-◌, ◌*◌, ◌/◌, ◌%◌, ◌≤◌, ◌<◌, min, ◌≡◌, ◌↔◌, Bool, true, cond, List, [], ◌∷◌, map, reverse, eqb, length, get_or, take}
use Rattle.std.proofs.Math.Option.{Option, none, some}
use Rattle.numbers.specs.Refusal.{area_size, not_held}
use Rattle.numbers.specs.Kind as kinds
use Rattle.numbers.specs.Mode as modes
use Rattle.numbers.specs.Limit.{bits_area, event, most_names, most_open, most_payload, most_word}
use Rattle.table.specs.Rows.{table_of, held_of}
use Rattle.table.specs.Held.{Alike}
use Rattle.value.specs.Simple.{AllBytes}
use Rattle.buffers.specs.Bytes.{words_of, bytes_of, word_from, half_from}
use Rattle.model.specs.Model.{Mark, Nodes, Path, events, texts, table_in}
use Rattle.model.specs.Model as model
use Rattle.model.specs.Items.{Mode}
use Rattle.model.specs.Trees.{total}
use Rattle.model.specs.Write.{bare}
use Rattle.theorems.specs.Content.{Model, one}
use Rattle.theorems.specs.Follows.{Follows}
use Rattle.model.specs.Blanks.{Exact}
use Rattle.theorems.specs.Less.{outermost, replaced, first_bare}
use Rattle.theorems.specs.Open.{Excuse}
use Rattle.model.specs.Whole.{mode_number, Outcome, declines, accepts, filled, event_words}
use Rattle.theorems.specs.Reader.{IsReading}
use Rattle.theorems.specs.Shortest.{AllShortest}
use Rattle.theorems.specs.Demand2.{Valid, payload_of, bytes_for}
use Rattle.theorems.specs.Demand3.{new_of}
use Rattle.bit_reader.specs.Codes.{left_at}
use Rattle.bit_reader.specs.declared.codes.Coding.{Coding}
use Rattle.call_parts.specs.Area.{area_of, area_bytes, place_word, told, mode_at, events_at, text_at, bits_at, count_at, names_at}
use Rattle.call_parts.specs.Calls.{Back, back, zeros, check_table, read_call, write_call, set_call}
use Rattle.bim.specs.Bits.{bits_call}

-- What a call gives back that refuses: the number; place and path, and nothing else, in the area; every output buffer
-- zero throughout.
abbrev pub refusal : (sizes : List ℕ) (n p : ℕ) → Path → Back
refusal sizes n p π = back n (area_of (declines n p π)) (map zeros sizes)

-- What `bim_read` gives back that accepts a tree, in buffers of e and x bytes: counts in the area; events and texts,
-- with zeros after them.
abbrev pub shown : (e x : ℕ) → Mode → Nodes → (used : ℕ) → Back
shown e x mode tree used =
    back 0 (area_of (accepts mode (length (events tree)) (length (texts tree)) used))
    (filled e (bytes_of (event_words (events tree))) ∷ filled x (texts tree) ∷ [])

-- What `bim_write` gives back that makes a payload of so many bits of n events: the payload, with zeros after it.
abbrev pub wrote : (room mode n text used : ℕ) → (payload : List ℕ) → Back
wrote room mode n text used payload = back 0 (area_of (told 0 mode n text used [])) (filled room payload ∷ [])

-- DEMAND 1. Every call is answered: with 0; or with area_size where the area has another size, which is then zero
-- throughout; or with a refusal whose place and path stand in the area. Only 0 leaves something in an output buffer.
pub data Answered (area : ℕ) (sizes : List ℕ) (o : Back) : Type 0 where
  accepted : area ≡ area_bytes → o.number ≡ 0 → Answered area sizes o
  no_area : (area ≡ area_bytes → ⊥) → o ≡ back area_size (zeros area) (map zeros sizes) → Answered area sizes o
  refused : (n p : ℕ) (π : Path) → area ≡ area_bytes → 1 ≤ n → length π ≤ most_names → o ≡ refusal sizes n p π
      → Answered area sizes o

-- The bit reader has no output buffer; on a refusal its area has the value 0, the place that was given and the bits
-- left there.
pub data AnsweredBits (s : List ℕ) (at area : ℕ) (o : Back) : Type 0 where
  accepted : area ≡ bits_area → o.number ≡ 0 → AnsweredBits s at area o
  no_area : (area ≡ bits_area → ⊥) → o ≡ back area_size (zeros area) [] → AnsweredBits s at area o
  refused : (n : ℕ) → area ≡ bits_area → 1 ≤ n → o ≡ back n (bytes_of (0 ∷ at ∷ left_at s at ∷ [])) []
      → AnsweredBits s at area o

-- A setting has the table as its output buffer, which others share: a refusal leaves it as it was.
pub data AnsweredSet (t : List ℕ) (area : ℕ) (o : Back) : Type 0 where
  accepted : area ≡ area_bytes → o.number ≡ 0 → AnsweredSet t area o
  no_area : (area ≡ area_bytes → ⊥) → o ≡ back area_size (zeros area) (t ∷ []) → AnsweredSet t area o
  refused : (n p : ℕ) → area ≡ area_bytes → 1 ≤ n → o ≡ back n (area_of (declines n p [])) (t ∷ []) → AnsweredSet t area o

-- What the accessors of include/bim.h fetch from an area.
pub record Fetches (A : List ℕ) (o : Outcome) : Type 0 where
  pub place : word_from A 0 ≡ place_word o.place
  pub mode : word_from A mode_at ≡ o.mode
  pub events : word_from A events_at ≡ o.events
  pub text : word_from A text_at ≡ o.text
  pub bits : word_from A bits_at ≡ o.bits
  pub names : word_from A count_at ≡ length o.path
  pub name : (i : ℕ) → half_from A (names_at + 2 * i) ≡ get_or o.path i 0

abbrev pub with_place_word : Outcome → Outcome
with_place_word o = record {
  number = o.number;
  place = place_word o.place;
  mode = o.mode;
  events = o.events;
  text = o.text;
  bits = o.bits;
  path = o.path;
}

pub record Demand1 : Type 0 where
  pub check : (t : List ℕ) (area : ℕ) → Answered area [] (check_table t area)
  pub read : (t : List ℕ) (party name type : ℕ) (s : List ℕ) (e x area : ℕ)
      → Answered area (e ∷ x ∷ []) (read_call t party name type s e x area)
  pub write : (t : List ℕ) (party name type mode : ℕ) (E X : List ℕ) (room area : ℕ)
      → Answered area (room ∷ []) (write_call t party name type mode E X room area)
  pub set : (t : List ℕ) (party type mark area : ℕ) → AnsweredSet t area (set_call t party type mark area)
  pub bits : (s : List ℕ) (at : ℕ) (c : Coding) (area : ℕ) → AnsweredBits s at area (bits_call s at c area)
  -- an area can be read back, part by part; so two answers with one number and one area are one answer, but for
  -- places over 2^32 - 1
  pub fetches : (o : Outcome) → Fetches (area_of o) o
  pub one_area : (o o' : Outcome) → o.number ≡ o'.number → area_of o ≡ area_of o' → with_place_word o ≡ with_place_word o'

-- DEMAND 2. The payload's bytes s have this reading: `IsReading` (theorems/specs/Reader) says that table and root are
-- right, that s is a mode byte, bits that the grammar (001, 8.4 and 8.5: `Grammar.Is`) lets stand for the tree, and
-- padding, and that there is room for the tree's events and texts.
pub record Reading (t : List ℕ) (party name type : ℕ) (s : List ℕ) (e x : ℕ) (mode : Mode) (tree : Nodes) (used : ℕ)
    : Type 0 where
  pub whole : length t % 4 ≡ 0
  pub is : IsReading (words_of t) party name type s (e / 4) x mode tree used

pub record Same (mode mode' : Mode) (tree tree' : Nodes) (used used' : ℕ) : Type 0 where
  pub modes : mode ≡ mode'
  pub trees : tree ≡ tree'
  pub bits : used ≡ used'

-- A call that accepts: this is the reading, there is no other, whatever the room, and it is what the call shows.
pub record Reads (t : List ℕ) (party name type : ℕ) (s : List ℕ) (e x : ℕ) : Type 0 where
  pub mode : Mode
  pub tree : Nodes
  pub used : ℕ
  pub reading : Reading t party name type s e x mode tree used
  pub only : (e' x' : ℕ) (mode' : Mode) (tree' : Nodes) (used' : ℕ) → Reading t party name type s e' x' mode' tree' used'
      → Same mode mode' tree tree' used used'
  pub shows : read_call t party name type s e x area_bytes ≡ shown e x mode tree used
  -- content models and occurrence bounds; Blanks of types that are not held, elements of types that are; true bit
  -- counts
  pub follows :
      Model (table_in mode.casting (table_of (words_of t))) mode.lengths (held_of (words_of t) party) (most_open - 1)
      (one name (model.only type)) (map bare (events tree)) (texts tree)
  pub blanks : Exact (held_of (words_of t) party) tree
  pub counts : 8 + total (events tree) ≡ used

-- A call that makes a payload: the list is valid, so that it is a tree's list, but for the fourth words, and the
-- texts are that tree's; the payload, the first (bits + 7) / 8 bytes of the buffer, is read, given room, as that
-- tree, with true counts.
pub record Writes (t : List ℕ) (party name type n : ℕ) (E X : List ℕ) (room : ℕ) : Type 0 where
  pub mode : Mode
  pub mode_is_lem : n ≡ mode_number mode
  pub valid : Valid (words_of t) party name type mode (words_of E) X
  pub payload : List ℕ
  pub used : ℕ
  pub size : length payload ≡ (used + 7) / 8
  pub fits : length payload ≤ room
  pub wrote_it : write_call t party name type n E X room area_bytes ≡ wrote room n (length E / event) (length X) used payload
  pub counts : 8 + total (events valid.tree) ≡ used
  pub reads : (e x : ℕ) → length E ≤ e → length X ≤ x
      → read_call t party name type payload e x area_bytes ≡ shown e x mode valid.tree used

-- None of the first n events in these bytes is a Blank.
abbrev pub NoBlankIn : List ℕ → ℕ → Type 0
NoBlankIn E n = (i : ℕ) → i < n → word_from E (event * i) ≡ kinds.blank → ⊥

-- The n events in these bytes from event i on.
unfoldable pub events_in : List ℕ → (i n : ℕ) → List model.Event
events_in E i zero = []
events_in E i (suc n) =
    model.event (word_from E (event * i)) (word_from E (event * i + 4)) (word_from E (event * i + 8)) (word_from E (event * i + 12))
    ∷ events_in E (i + 1) n

-- The bits of a Start's flag: 1 in modes 1 and 5, else 0.
unfoldable pub flag_bit : (mode : ℕ) → ℕ
flag_bit mode = cond (eqb (mode % modes.casting) modes.optional) 1 0

-- Of the first n events in these bytes every TheLength is shortest (`Shortest`, of the list alone).
abbrev pub ShortestIn : (mode : ℕ) → List ℕ → ℕ → Type 0
ShortestIn mode E n = AllShortest (flag_bit mode) (events_in E 0 n)

-- What comes of writing back what a call to `bim_read` left (A, E, T), in rooms e and x, of the payload s: a payload no
-- longer than s, which reads, in the same rooms, to the same mode, the same texts, and events that are the same in
-- their first three words (`bare`).
pub record Rewrites (t : List ℕ) (party name type : ℕ) (s A E T : List ℕ) (e x room : ℕ) : Type 0 where
  pub payload : List ℕ
  pub used : ℕ
  pub size : length payload ≡ (used + 7) / 8
  pub shorter : length payload ≤ length s
  pub fewer : used ≤ word_from A bits_at
  pub wrote_it : write_call t party name type (word_from A mode_at) (take (event * word_from A events_at) E) (take (word_from A text_at) T)
      room area_bytes
      ≡ wrote room (word_from A mode_at) (word_from A events_at) (word_from A text_at) used payload
  pub area : List ℕ
  pub list : List ℕ
  pub reads : read_call t party name type payload e x area_bytes ≡ back 0 area (list ∷ T ∷ [])
  pub mode : word_from area mode_at ≡ word_from A mode_at
  pub count : word_from area events_at ≡ word_from A events_at
  pub text : word_from area text_at ≡ word_from A text_at
  pub bits : word_from area bits_at ≡ used
  pub same : map bare (events_in list 0 (word_from A events_at)) ≡ map bare (events_in E 0 (word_from A events_at))

pub record Demand2 : Type 0 where
  -- what is accepted is the reading, and every reading is accepted
  pub accepts_only : (t : List ℕ) (party name type : ℕ) (s : List ℕ) (e x : ℕ)
      → (read_call t party name type s e x area_bytes).number ≡ 0
      → Reads t party name type s e x
  pub accepts_all : (t : List ℕ) (party name type : ℕ) (s : List ℕ) (e x : ℕ) (mode : Mode) (tree : Nodes) (used : ℕ)
      → Reading t party name type s e x mode tree used → read_call t party name type s e x area_bytes ≡ shown e x mode tree used
  -- a list is valid exactly when, by the table alone, it follows the content models and has no Blank
  pub valid_by_table : (t : List ℕ) (party name type : ℕ) (mode : Mode) (E X : List ℕ)
      → Valid (words_of t) party name type mode (words_of E) X ↔ Follows (words_of t) party name type mode (words_of E) X
  -- what is written reads back, and every valid list is written, given room
  pub writes_only : (t : List ℕ) (party name type n : ℕ) (E X : List ℕ) (room : ℕ)
      → (write_call t party name type n E X room area_bytes).number ≡ 0 → Writes t party name type n E X room
  pub writes_all : (t : List ℕ) (party name type : ℕ) (mode : Mode) (E X : List ℕ) (room : ℕ)
      → (h : Valid (words_of t) party name type mode (words_of E) X) → length t % 4 ≡ 0 → length E % event ≡ 0
      → bytes_for h.bits ≤ min room most_payload
      → write_call t party name type (mode_number mode) E X room area_bytes
      ≡ wrote room (mode_number mode) (length E / event) (length X) (8 + length h.bits) (payload_of mode h.bits)
  -- what was read without a Blank, and with every TheLength in its shortest form, is written back byte for byte, given
  -- room: the host hands over mode, events and texts as the area counts them. The first two premises are the two
  -- clauses of `bim_read`'s contract
  pub writes-back : (t : List ℕ) (party name type : ℕ) (s A E T : List ℕ) (e x room : ℕ)
      → back 0 A (E ∷ T ∷ []) ≡ read_call t party name type s e x area_bytes → AllBytes s
      → NoBlankIn E (word_from A events_at) → ShortestIn (word_from A mode_at) E (word_from A events_at) → length s ≤ room
      → write_call t party name type (word_from A mode_at) (take (event * word_from A events_at) E) (take (word_from A text_at) T)
      room area_bytes
      ≡ wrote room (word_from A mode_at) (word_from A events_at) (word_from A text_at) (word_from A bits_at) s
  -- and whatever TheLength was padded, it is written as no more bytes, which read as the same list but for its bits
  pub rewrites : (t : List ℕ) (party name type : ℕ) (s A E T : List ℕ) (e x room : ℕ)
      → back 0 A (E ∷ T ∷ []) ≡ read_call t party name type s e x area_bytes
      → NoBlankIn E (word_from A events_at) → length s ≤ room → Rewrites t party name type s A E T e x room

-- DEMAND 3. Two tables that `bim_check_table` accepts, alike but for held words; for one party, which makes both calls,
-- the second's marks include the first's. Other parties' marks are free.
pub record Pair (t t' : List ℕ) (party : ℕ) : Type 0 where
  pub first_valid : (check_table t area_bytes).number ≡ 0
  pub second_valid : (check_table t' area_bytes).number ≡ 0
  pub alike : Alike (words_of t) (words_of t')
  pub holds : (k : ℕ) → k < (table_of (words_of t)).types → held_of (words_of t) party k ≡ true → held_of (words_of t') party k ≡ true

-- a type that the party holds by the second and not by the first
abbrev pub new : List ℕ → List ℕ → (party : ℕ) → ℕ → Bool
new t t' party = new_of (words_of t) (words_of t') party

-- What the first gives back, where o is the first of some elements that has no length: 9 at its place, with the path
-- around it; or, where there is none, this tree.
unfoldable pub less : (e x : ℕ) → Mode → (o : Option (Mark × Path)) → Nodes → (used : ℕ) → Back
less e x mode none tree used = shown e x mode tree used
less e x mode (some (m, π)) tree used = refusal (e ∷ x ∷ []) not_held m.at (reverse π)

module _ (t t' : List ℕ) (party name type : ℕ) (s : List ℕ) (e x : ℕ) where
  -- (a) The second accepts: the tree is its reading. Every byte of the first call is then given: 9 at the first
  -- outermost newly held element without a length; else the tree with each such element replaced by one Blank of the
  -- same bit count, its texts left out (`Less`).
  pub record SecondAccepts : Type 0 where
    pub mode : Mode
    pub tree : Nodes
    pub used : ℕ
    pub reading : Reading t' party name type s e x mode tree used
    pub second : read_call t' party name type s e x area_bytes ≡ shown e x mode tree used
    pub first : read_call t party name type s e x area_bytes
        ≡ less e x mode (first_bare (outermost (new t t' party) [] tree)) (replaced (new t t' party) tree) used

  -- (b) Only the first accepts: the tree is its reading. The second refuses for lack of output room (7, 8), or while
  -- an element that the tree shows as a Blank is still open, by the place and the path that stand in the area
  -- (`Open`).
  pub record OnlyFirstAccepts : Type 0 where
    pub mode : Mode
    pub tree : Nodes
    pub used : ℕ
    pub reading : Reading t party name type s e x mode tree used
    pub first : read_call t party name type s e x area_bytes ≡ shown e x mode tree used
    pub number : ℕ
    pub place : ℕ
    pub path : Path
    pub second : read_call t' party name type s e x area_bytes ≡ refusal (e ∷ x ∷ []) number place path
    pub place-fits : place ≤ most_word
    pub path-fits : length path ≤ most_names
    pub excuse : Excuse (new t t' party) [] tree number place path

pub record Demand3 : Type 0 where
  pub second_accepts : (t t' : List ℕ) (party name type : ℕ) (s : List ℕ) (e x : ℕ) → Pair t t' party
      → (read_call t' party name type s e x area_bytes).number ≡ 0 → SecondAccepts t t' party name type s e x
  pub only_first_accepts : (t t' : List ℕ) (party name type : ℕ) (s : List ℕ) (e x : ℕ) → Pair t t' party
      → (read_call t party name type s e x area_bytes).number ≡ 0 → ((read_call t' party name type s e x area_bytes).number ≡ 0 → ⊥)
      → OnlyFirstAccepts t t' party name type s e x
