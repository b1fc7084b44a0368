-- What is proved of the salvage over a whole file.
use Rattle.std.specs.Prelude.{◌≡◌, ℕ, zero, suc, ◌+◌, ◌-◌, ◌*◌, ◌/◌, ◌%◌, ◌<◌, ◌≤◌, Bool, true, false, cond, ◌⊎◌, List, [], ◌∷◌, ◌++◌, length, take, drop, ◌==◌, ◌≢◌, nat_le, nat_lt}
use Rattle.numbers.specs.Limit.{block_bytes, block_head, block_data, block_words, record_head, no_start}
use Rattle.numbers.specs.Refusal.{block_layout}
use Rattle.shelf.specs.Stream.{byte_at, length_at, next}
use Rattle.shelf.specs.Block.{bytes_from, sum_to, file_of}
use Rattle.shelf.specs.Judge.{blocks, sum_at, number_at, used_at, first_at, end_at, reason}
use Rattle.shelf.specs.Shelf.{gives, shelf_read}
use Rattle.shelf.specs.Theorems as theorems
use Rattle.shelf.specs.Theorems.{entry_bytes, stream_of, Octets, AllRight}
use Rattle.shelf.specs.Stays.{kept_in}
use Rattle.shelf.specs.Salvage.{Turn, Known, Judged, Stretch, Entry, judge, stretches, kept_of, count_of, entries_of, bytes_dropped, salvage}

-- a record of a list (the salvage's own list has entries too)
abbrev pub Record : Type 0
Record = theorems.Entry

-- each of a list
pub data Each (A : Type 0) (P : A → Type 0) : List A → Type 0 where
  none : Each A P []
  one : {x : A} {xs : List A} → P x → Each A P xs → Each A P (x ∷ xs)

pub data Among (A : Type 0) (x : A) : List A → Type 0 where
  here : {xs : List A} → Among A x (x ∷ xs)
  there : {y : A} {xs : List A} → Among A x xs → Among A x (y ∷ xs)

-- the blocks from `first` up to i are good, each judged with what stands before it
pub data GoodTo (f : List ℕ) (first : ℕ) : (i : ℕ) → Turn → Known → Type 0 where
  begun : GoodTo f first first Turn.any Known.lost
  on : {i : ℕ} {turn : Turn} {known now : Known} → GoodTo f first i turn known → judge f i turn known ≡ Judged.good now → GoodTo f first (i + 1) (Turn.only (number_at f i + 1)) now

-- The stretches lie end to end: good blocks from i on, behind which stands a bad one, or the end and perhaps a part of a block. So they are the longest runs
-- of good blocks, and every block is in one of them or bad.
pub data EndToEnd (f : List ℕ) : (i : ℕ) → List Stretch → Type 0 where
  last : {i : ℕ} {s : Stretch} {turn : Turn} {known : Known} → s.first ≡ i → i ≤ s.last → GoodTo f i s.last turn known → s.last ≡ blocks f
      → s.reason ≡ cond (length f % block_bytes == 0) 0 block_layout → EndToEnd f i (s ∷ [])
  bad : {i : ℕ} {s : Stretch} {turn : Turn} {known : Known} {ss : List Stretch} → s.first ≡ i → i ≤ s.last → GoodTo f i s.last turn known → s.last < blocks f
      → judge f s.last turn known ≡ Judged.bad s.reason → (s.reason ≢ 0) → EndToEnd f (s.last + 1) ss → EndToEnd f i (s ∷ ss)

abbrev pub LieEndToEnd : Type 0
LieEndToEnd = (f : List ℕ) → EndToEnd f 0 (stretches f)

-- A stream's records from a place on, as many as end within it, each as its bytes.
unfoldable pub records_by : ℕ → (ℕ → ℕ) → (end p : ℕ) → List (List ℕ)
records_by zero b end p = []
records_by (suc steps) b end p =
    cond (nat_lt (p + 1) end) (cond (nat_le (next b p) end) (bytes_from b p (record_head + length_at b p) ∷ records_by steps b end (next b p)) []) []

abbrev pub records_in : List ℕ → ℕ → List (List ℕ)
records_in s p = records_by (length s) (byte_at s) (length s) p

-- records one after another
unfoldable pub joined : List (List ℕ) → List ℕ
joined [] = []
joined (r ∷ rs) = r ++ joined rs

-- D, the used bytes of a stretch together
unfoldable pub data_by : (k : ℕ) → List ℕ → (i : ℕ) → List ℕ
data_by zero f i = []
data_by (suc k) f i = bytes_from (byte_at f) (block_bytes * i + block_head) (used_at f i) ++ data_by k f (i + 1)

abbrev pub data_of : List ℕ → Stretch → List ℕ
data_of f s = data_by (s.last - s.first) f s.first

-- (a) Every kept record is a piece of one stretch's D, whose blocks are fine and numbered one after another.
pub record PieceOf (d r : List ℕ) : Type 0 where
  pub place : ℕ
  pub inside : place + length r ≤ length d
  pub bytes : r ≡ bytes_from (byte_at d) place (length r)

pub record Consecutive (f : List ℕ) (first last : ℕ) : Type 0 where
  pub within : last ≤ blocks f
  pub fine : (i : ℕ) → first ≤ i → i < last → reason f i (number_at f i) ≡ 0
  pub numbers : (i : ℕ) → first ≤ i → i + 1 < last → number_at f (i + 1) ≡ number_at f i + 1

pub record Piece (f r : List ℕ) : Type 0 where
  pub of : Stretch
  pub stretch : Among Stretch of (stretches f)
  pub consecutive : Consecutive f of.first of.last
  pub piece : PieceOf (data_of f of) r

abbrev pub NothingElse : Type 0
NothingElse = (f : List ℕ) → Each (List ℕ) (Piece f) (records_in (kept_of f (stretches f)) 0)

-- (b) Of a stretch, the records that are read from the first start on that one of its blocks names (the i-th's bytes begin at `at` of D) and that end
-- within D. What is kept is these, of each stretch, one after another; they are its records, and so many are told.
unfoldable pub whole_by : (k : ℕ) → List ℕ → (i : ℕ) → (d : List ℕ) → (at : ℕ) → List (List ℕ)
whole_by zero f i d at = []
whole_by (suc k) f i d at = cond (first_at f i == no_start) (whole_by k f (i + 1) d (at + used_at f i)) (records_in d (at + first_at f i))

abbrev pub whole_of : List ℕ → Stretch → List (List ℕ)
whole_of f s = whole_by (s.last - s.first) f s.first (data_of f s) 0

unfoldable pub whole_records : List ℕ → List Stretch → List (List ℕ)
whole_records f [] = []
whole_records f (s ∷ ss) = whole_of f s ++ whole_records f ss

abbrev pub AllWhole : Type 0
AllWhole =
    (f : List ℕ)
    → (kept_of f (stretches f) ≡ joined (whole_records f (stretches f)))
    × (records_in (kept_of f (stretches f)) 0 ≡ whole_records f (stretches f))
    × (count_of (stretches f) ≡ length (whole_records f (stretches f)))

-- (c) A WRITER'S FILE of which some blocks are replaced by any 512 bytes whose sum is wrong: kept are exactly the records none of whose bytes, k from p on,
-- lay in a replaced block.
abbrev pub block_of : List ℕ → ℕ → List ℕ
block_of f i = take block_bytes (drop (block_bytes * i) f)

pub record Damaged (f g : List ℕ) (replaced : ℕ → Bool) : Type 0 where
  pub size : length g ≡ length f
  pub same : (i : ℕ) → i < blocks f → replaced i ≡ false → block_of g i ≡ block_of f i
  pub wrong : (i : ℕ) → i < blocks f → replaced i ≡ true → sum_to g (block_bytes * i) block_words ≢ sum_at g i

unfoldable pub hit : (ℕ → Bool) → (p k : ℕ) → Bool
hit replaced p zero = false
hit replaced p (suc k) = cond (replaced (p / block_data)) true (hit replaced (p + 1) k)

unfoldable pub untouched : (ℕ → Bool) → (p : ℕ) → List Record → List Record
untouched replaced p [] = []
untouched replaced p (r ∷ rs) =
    let after = untouched replaced (p + length (entry_bytes r)) rs in cond (hit replaced p (length (entry_bytes r))) after (r ∷ after)

abbrev pub Untouched : Type 0
Untouched =
    (rs : List Record) (g : List ℕ) (replaced : ℕ → Bool) → AllRight rs → Damaged (file_of (byte_at (stream_of rs)) (length (stream_of rs))) g replaced
    → (kept_of g (stretches g) ≡ stream_of (untouched replaced 0 rs)) × (count_of (stretches g) ≡ length (untouched replaced 0 rs))

-- (d) Of each good block: its used bytes are those between its stretch's first kept record and the end of the last, and those that the list tells of it.
unfoldable pub told : ℕ → List Entry → ℕ
told i [] = 0
told i (e ∷ es) = cond (e.block == i) (e.bytes + told i es) (told i es)

pub record AccountsIn (f : List ℕ) (s : Stretch) : Type 0 where
  pub each : (i : ℕ) → s.first ≤ i → i < s.last → used_at f i ≡ kept_in (block_data * i) (end_at f i) s.start s.stop + told i (entries_of f (stretches f))

abbrev pub AccountsEach : Type 0
AccountsEach = (f : List ℕ) → Each Stretch (AccountsIn f) (stretches f)

-- So over a file: the used bytes of k blocks from i on, and those of all good blocks.
unfoldable pub used_by : (k : ℕ) → List ℕ → (i : ℕ) → ℕ
used_by zero f i = 0
used_by (suc k) f i = used_at f i + used_by k f (i + 1)

unfoldable pub good_bytes : List ℕ → List Stretch → ℕ
good_bytes f [] = 0
good_bytes f (s ∷ ss) = used_by (s.last - s.first) f s.first + good_bytes f ss

abbrev pub AccountsAll : Type 0
AccountsAll = (f : List ℕ) → good_bytes f (stretches f) ≡ length (kept_of f (stretches f)) + bytes_dropped (entries_of f (stretches f))

-- (e) The reader accepts a file exactly where no block of it is bad, that is where no entry of the list has a reason, and where it is empty or its first
-- number is 0. (`Stays` says what is then salvaged.)
abbrev pub NoneBad : List Entry → Type 0
NoneBad es = Each Entry (λ (e : Entry). e.reason ≡ 0) es

abbrev pub BeginsAt0 : List ℕ → Type 0
BeginsAt0 f = (length f ≡ 0) ⊎ (number_at f 0 ≡ 0)

pub record Accepts (f : List ℕ) (room : ℕ) : Type 0 where
  pub records : ℕ
  pub bytes : ℕ
  pub stream : List ℕ
  pub reads : shelf_read f room ≡ gives records bytes (length f) stream

abbrev pub AcceptsExactly : Type 0
AcceptsExactly =
    (f : List ℕ) (room : ℕ) → Octets f → length f ≤ room
    → (Accepts f room → NoneBad (entries_of f (stretches f)) × BeginsAt0 f) × (NoneBad (entries_of f (stretches f)) × BeginsAt0 f → Accepts f room)

-- (f) The new file reads back as what was kept, with as many records.
abbrev pub ReadsBack : Type 0
ReadsBack =
    (f : List ℕ) (room list back : ℕ) → (salvage f room list).answer.number ≡ 0 → length (kept_of f (stretches f)) ≤ back
    → shelf_read (salvage f room list).file back
    ≡ gives (salvage f room list).answer.records (salvage f room list).answer.stream (salvage f room list).answer.file (kept_of f (stretches f))
