-- THE LISTING PROGRAM: what it makes of its input. Table word count (4 bytes), words, root name and type (2 bytes each), payload.
use Rattle.std.specs.Prelude.{ℕ, ◌+◌, ◌*◌, cond, List, [], leb, length, take, drop}
use Rattle.numbers.specs.Refusal as refusal
use Rattle.numbers.specs.Limit.{most_table_words}
use Rattle.model.specs.Whole.{Reply, reading}
use Rattle.model.specs.Whole.Reply.{declined}
use Rattle.reader.specs.Answers.{Answer, Replies}
use Rattle.buffers.specs.Bytes.{word_from, half_from, words_of}

-- the word count, and where the root name, the root type and the payload stand behind the words
abbrev pub count_in : List ℕ → ℕ
count_in s = word_from s 0

abbrev pub name_at : ℕ → ℕ
name_at n = 4 + 4 * n

abbrev pub type_at : ℕ → ℕ
type_at n = 6 + 4 * n

abbrev pub payload_at : ℕ → ℕ
payload_at n = 8 + 4 * n

-- one payload byte more than is allowed is looked at, so that payload_size shows
abbrev pub table_in : List ℕ → ℕ → List ℕ
table_in s n = words_of (take (4 * n) (drop 4 s))

abbrev pub payload_in : List ℕ → ℕ → List ℕ
payload_in s n = take 8193 (drop (payload_at n) s)

unfoldable pub listed : List ℕ → ℕ → ℕ → ℕ → Reply
listed s n words bytes = reading (table_in s n) 0 (half_from s (name_at n)) (half_from s (type_at n)) (payload_in s n) words bytes

-- an input that ends before its root type is whole, or a word count over most_table_words, is refused as a table of no words is
abbrev pub unread : ℕ → ℕ → Reply
unread words bytes = declined refusal.table 0 []

unfoldable pub listing : List ℕ → ℕ → ℕ → Reply
listing s words bytes =
    cond (leb (count_in s) most_table_words)
    (cond (leb (payload_at (count_in s)) (length s)) (listed s (count_in s) words bytes) (unread words bytes))
    (unread words bytes)

-- THE PROMISE, of a reply that hangs on the room: E and T are lent, and E' and T' are what is left in them
abbrev pub Answers : (ℕ → ℕ → Reply) → (E T : List ℕ) → Answer → (E' T' : List ℕ) → Type 0
Answers f E T r E' T' = Replies (f (length E) (length T)) (length E) (length T) r E' T'
