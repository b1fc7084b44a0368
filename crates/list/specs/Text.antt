-- What the program prints, as ASCII.
use Rattle.std.specs.Prelude.{ℕ, zero, suc, ◌/◌, ◌≡◌, cond, List, [], ◌++◌, ltb, eqb, get_or, drop}
use Rattle.std.proofs.Common.{ap₂}
use Rattle.list.specs.Digits.{last_digits}
use Rattle.model.specs.Whole.{Outcome, outcome, events_left}
use Rattle.reader.specs.Answers.{Answer, answer_is, Replies}
use Rattle.list.specs.Ascii.{ascii}
use Rattle.list.specs.Listing.{listing}

-- how many decimal digits a number has, of at most k + 1
unfoldable pub places : ℕ → ℕ → ℕ
places zero n = 1
places (suc k) n = cond (ltb n 10) 1 (suc (places k (n / 10)))

-- a number up to 2^64 - 1 in decimal
unfoldable pub decimal : ℕ → List ℕ
decimal n = last_digits 10 (places 19 n) n

-- `events E text T bits B`; an event's four words; `refused N P`
unfoldable pub heading : ℕ → ℕ → ℕ → List ℕ
heading e t b = ascii "events " ++ decimal e ++ (ascii " text " ++ decimal t) ++ (ascii " bits " ++ decimal b) ++ ascii "\n"

unfoldable pub event_line : ℕ → ℕ → ℕ → ℕ → List ℕ
event_line kind p q bits = decimal kind ++ (ascii " " ++ decimal p) ++ (ascii " " ++ decimal q) ++ (ascii " " ++ decimal bits) ++ ascii "\n"

unfoldable pub refusal : ℕ → ℕ → List ℕ
refusal n p = ascii "refused " ++ decimal n ++ (ascii " " ++ decimal p) ++ ascii "\n"

-- the lines of the first n events, four words each
unfoldable pub event_lines : ℕ → List ℕ → List ℕ
event_lines zero l = []
event_lines (suc n) l = event_line (get_or l 0 0) (get_or l 1 0) (get_or l 2 0) (get_or l 3 0) ++ event_lines n (drop 4 l)

-- THE TEXT: all that is printed of an answer and of the event words that came with it
unfoldable pub printed : Outcome → List ℕ → List ℕ
printed o l = cond (eqb o.number 0) (heading o.events o.text o.bits ++ event_lines o.events l) (refusal o.number o.place)

-- what the program prints of an input: 2,048 events and 8,192 text bytes are lent
unfoldable pub printed_of : List ℕ → List ℕ
printed_of s = let R = listing s 8192 8192 in printed (outcome R) (events_left 8192 R)

-- whatever answer and event words the promise of `read_input` lets the program hold, their text is that of the input
pub text-held : (s : List ℕ) (r : Answer) (E T : List ℕ) → Replies (listing s 8192 8192) 8192 8192 r E T → printed (answer_is r) E ≡ printed_of s
unfolding printed_of
text-held s r E T h = ap₂ printed h.answer h.events_left_lem
