-- What a reading and a writing promise by the contents of their slices: of an output buffer that before and after the call. By a
-- table's words, which the word functions take, or by its bytes, as a host has them.
use Rattle.std.specs.Prelude.{ℕ, ◌/◌, ◌≡◌, List, [], ◌∷◌, length, take}
use Rattle.numbers.specs.Limit as limit
use Rattle.model.specs.Whole.{Outcome, reading}
use Rattle.buffers.specs.Bytes.{words_of}
use Rattle.reader.specs.Answers.{Replies}
use Rattle.reader.specs.Answers as read
use Rattle.writer.specs.Answers.{Answer, Writes}
use Rattle.call_parts.specs.Calls.{back, read_bytes, write_list, write_bytes, write_call}
use Rattle.bim.specs.EventRoom.{ReadBack}

-- table, party, root name, root type, payload, words lent for events; events and texts before; the answer; both after
abbrev pub ReadByWords : List ℕ → ℕ → ℕ → ℕ → List ℕ → ℕ → (E X : List ℕ) → Outcome → (E' X' : List ℕ) → Type 0
ReadByWords l party name type s m E X o E' X' = ReadBack (reading l party name type s m (length X)) (length E) (length X) o E' X'

abbrev pub ReadByBytes : List ℕ → ℕ → ℕ → ℕ → List ℕ → (E X : List ℕ) → Outcome → (E' X' : List ℕ) → Type 0
ReadByBytes t party name type s E X o E' X' =
    ReadBack (read_bytes t party name type s (length E) (length X)) (length E) (length X) o E' X'

-- a payload read into W words and X bytes by the first n words of a table's bytes: the answer, the words and bytes after
abbrev pub ReadInWords : (t : List ℕ) (n party name type : ℕ) (s : List ℕ) (W X : ℕ) → read.Answer → List ℕ → List ℕ → Type 0
ReadInWords t n party name type s W X r E T = Replies (reading (take n (words_of t)) party name type s W X) W X r E T

-- table, party, root name, root type, mode, events, texts; the payload before; the answer; the payload after
abbrev pub WrittenByWords : List ℕ → ℕ → ℕ → ℕ → ℕ → (e x P : List ℕ) → Answer → (P' : List ℕ) → Type 0
WrittenByWords l party name type mode e x P r P' =
    Writes (write_list l party name type mode e x (length P)) mode (length e / limit.event) (length x) (length P) r P'

abbrev pub WrittenByBytes : List ℕ → ℕ → ℕ → ℕ → ℕ → (e x P : List ℕ) → Answer → (P' : List ℕ) → Type 0
WrittenByBytes t party name type mode e x P r P' =
    Writes (write_bytes t party name type mode e x (length P)) mode (length e / limit.event) (length x) (length P) r P'

-- the same, and the area before; the number; payload and area after
abbrev pub WrittenAndTold : List ℕ → ℕ → ℕ → ℕ → ℕ → (e x P A : List ℕ) → (n : ℕ) → (P' A' : List ℕ) → Type 0
WrittenAndTold t party name type mode e x P A n P' A' =
    back n A' (P' ∷ []) ≡ write_call t party name type mode e x (length P) (length A)
