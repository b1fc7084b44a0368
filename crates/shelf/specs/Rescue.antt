-- What the functions that salvage answer and ask, over the definition of a salvage.
use Rattle.std.specs.Prelude.{◌≡◌, ℕ, zero, suc, ◌+◌, ◌-◌, ◌*◌, ◌/◌, ◌%◌, ◌<◌, ◌≤◌, Bool, false, cond, Option, Some, None, Result, Ok, Err, List, [], ◌∷◌, ◌++◌, length, ◌==◌, nat_le, nat_lt, slice_set}
use Rattle.std.proofs.lemmas.List.Edits.{sets}
use Rattle.numbers.specs.Limit.{block_bytes, block_data, most_blocks, dropped}
use Rattle.numbers.specs.Refusal.{block_layout}
use Rattle.numbers.specs.Refused.{number_of}
use Rattle.numbers.specs.declared.refusal.Refusal.{Refusal}
use Rattle.buffers.specs.Bytes.{bytes_of}
use Rattle.shelf.specs.declared.answers.Trail.{Trail}
use Rattle.shelf.specs.declared.answers.Kept.{Kept}
use Rattle.shelf.specs.declared.answers.Listed.{Listed}
use Rattle.shelf.specs.declared.answers.Tally.{Tally}
use Rattle.shelf.specs.declared.answers.Stand.{Stand}
use Rattle.shelf.specs.declared.rescue.DropList.{DropList}
use Rattle.shelf.specs.Answers.{Rescued}
use Rattle.shelf.specs.Judge.{place_of, byte_of, blocks, number_at, used_at}
use Rattle.shelf.specs.Shelf.{filled}
use Rattle.shelf.specs.Salvage.{Turn, any, only, Known, lost, from, Judged, bad, good, Stretch, Entry, Salvaged, kept_by, stretch, stretches_by, good_entries, bad_entry, entry_words}

-- what the code knows, as the definition has it
abbrev pub known_of : Option Trail → Known
known_of None = lost
known_of (Some t) = from t.start t.reached.place t.reached.count

abbrev pub judged_of : Result (Option Trail) Refusal → Judged
judged_of (Err r) = bad (number_of r)
judged_of (Ok now) = good (known_of now)

-- the turn of block i of the stretch that begins at `first`: behind a good block of it the number that follows, else any
unfoldable pub turn_at : List ℕ → (first i : ℕ) → Turn
turn_at f first i = cond (nat_lt first i) (only (number_at f (i - 1) + 1)) any

-- the records kept from a start on, and those of a stretch
unfoldable pub kept_from : List ℕ → (end start : ℕ) → Kept
kept_from f end start = let k = kept_by end (byte_of f) end start 0 in record { start = start; stop = k.place; count = k.count }

abbrev pub kept_in : Stretch → Kept
kept_in s = record { start = s.start; stop = s.stop; count = s.count }

-- where the byte behind the one at a place lies: behind the last of a block come the sum and the next head
unfoldable pub place_after : ℕ → ℕ
place_after place = cond (place % block_bytes == 505) (place + 15) (place + 1)

-- k bytes laid where they lie in the blocks of a file, from byte `at` of its stream on, as far as there is room
unfoldable pub laid : List ℕ → (at : ℕ) → (ℕ → ℕ) → (start k : ℕ) → List ℕ
laid d at b start zero = d
laid d at b start (suc k) = slice_set (laid d at b start k) (place_of (at + k)) (b (start + k))

-- entries put behind those that a list has, as far as there is room, and counted
pub record Listing : Type 0 where
  pub entries : ℕ
  pub dropped : ℕ
  pub list : List ℕ

abbrev pub told : Listed → List ℕ → Listing
told l list = record { entries = l.entries; dropped = l.dropped; list = list }

abbrev pub told_by : DropList → Listing
told_by d = told d.listed d.list.now

unfoldable pub entered : List ℕ → (entries : ℕ) → Entry → List ℕ
entered list entries e = cond (nat_lt entries (length list / dropped)) (sets list (dropped * entries) (bytes_of (entry_words (e ∷ [])))) list

unfoldable pub listing : Listing → List Entry → Listing
listing x [] = x
listing x (e ∷ es) =
    listing (record { entries = x.entries + 1; dropped = x.dropped + e.bytes; list = entered x.list x.entries e }) es

-- what is salvaged of stretches, one after another: records, bytes, the new file's data, the list
pub record Gathered : Type 0 where
  pub records : ℕ
  pub stream : ℕ
  pub fresh : List ℕ
  pub listing : Listing

abbrev pub held : Tally → (fresh list : List ℕ) → Gathered
held t fresh list =
    record { records = t.records; stream = t.stream; fresh = fresh; listing = told t.listed list }

unfoldable pub entries_in : List ℕ → Stretch → List Entry
entries_in f s = good_entries (s.last - s.first) f s s.first ++ bad_entry s.last s.reason

-- the entries of its good blocks, by the places where kept records begin and end
unfoldable pub good_in : List ℕ → (first last start stop : ℕ) → List Entry
good_in f first last start stop =
    good_entries (last - first) f (record { first = 0; last = 0; start = start; stop = stop; count = 0; reason = 0 }) first

unfoldable pub gather_one : List ℕ → Gathered → Stretch → Gathered
gather_one f g s =
    record {
      records = g.records + s.count;
      stream = g.stream + (s.stop - s.start);
      fresh = laid g.fresh g.stream (byte_of f) s.start (s.stop - s.start);
      listing = listing g.listing (entries_in f s);
    }

unfoldable pub gathered : List ℕ → Gathered → List Stretch → Gathered
gathered f g [] = g
gathered f g (s ∷ ss) = gathered f (gather_one f g s) ss

abbrev pub nothing : Tally
nothing = record { records = 0; stream = 0; listed = record { entries = 0; dropped = 0 } }

-- the stretches that are still to come from block i on
unfoldable pub to_come : List ℕ → (i first : ℕ) → Known → List Stretch
to_come f i first known = stretches_by (blocks f - i) f i first (turn_at f first i) known

-- the reason of what is left behind the blocks
unfoldable pub left_over : List ℕ → ℕ
left_over f = cond (length f % block_bytes == 0) 0 block_layout

-- no file has as many blocks, as it has at most 2^64 - 1 bytes
abbrev pub many_blocks : ℕ
many_blocks = 36028797018963968

-- of the blocks of a stretch none has more used bytes than a block holds
pub record Goods (f : List ℕ) (first i : ℕ) : Type 0 where
  pub most : (j : ℕ) → first ≤ j → j < i → used_at f j ≤ block_data

-- the next record, where it is known, begins past the blocks before
pub record Next (f : List ℕ) (i : ℕ) (known : Known) : Type 0 where
  pub fewer : (start p c : ℕ) → known ≡ from start p c → c ≤ p
  pub past : (start p c : ℕ) → known ≡ from start p c → i < blocks f → block_data * i ≤ p + 1

-- and the first was named in this stretch
pub record Ready (f : List ℕ) (first i : ℕ) (known : Known) : Type 0 where
  pub next : Next f i known
  pub after : (start p c : ℕ) → known ≡ from start p c → block_data * first ≤ start
  pub before : (start p c : ℕ) → known ≡ from start p c → start ≤ block_data * i

-- what is kept of a stretch, and that it lies in its blocks
pub record Keeps (f : List ℕ) (first last : ℕ) (known : Known) (r : Kept) : Type 0 where
  pub kept : r ≡ kept_in (stretch f first last known 0)
  pub after : block_data * first ≤ r.start
  pub on : r.start ≤ r.stop
  pub most : r.stop ≤ block_data * last
  pub fewer : r.count ≤ r.stop - r.start

-- n blocks give an entry and as many bytes as a block holds each, at most
pub record Few (n : ℕ) (l : Listed) : Type 0 where
  pub entries : l.entries ≤ n
  pub dropped : l.dropped ≤ block_data * n

pub record Within (n : ℕ) (t : Tally) : Type 0 where
  pub records : t.records ≤ t.stream
  pub stream : t.stream ≤ block_data * n
  pub listed : Few n t.listed

pub record Stands (f : List ℕ) (i : ℕ) (s : Stand) : Type 0 where
  pub begun : s.first ≤ i
  pub goods : Goods f s.first i
  pub ready : Ready f s.first i (known_of s.known)
  pub tally : Within s.first s.tally

-- room for m blocks, each with a number, and for the entries
unfoldable pub has_room : (room list m entries : ℕ) → Bool
has_room room list m entries = cond (nat_lt (room / block_bytes) m) false (cond (nat_lt most_blocks m) false (nat_le entries (list / dropped)))

-- the answer, and what new file and list then are
pub record Saved (o : Salvaged) (room rows : ℕ) (r : Rescued) (made listed : List ℕ) : Type 0 where
  pub answer : r.answer ≡ o.answer
  pub entries : r.entries ≡ o.entries
  pub dropped : r.dropped ≡ o.lost
  pub file : made ≡ filled room o.file
  pub list : listed ≡ filled rows o.list
