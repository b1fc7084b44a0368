-- What is proved of the salvage.
use Rattle.std.specs.Prelude.{◌≡◌, ℕ, ◌+◌, ◌-◌, ◌%◌, ◌≤◌, min, max, cond, List, [], length, ◌==◌}
use Rattle.numbers.specs.Limit.{block_bytes}
use Rattle.shelf.specs.Block.{blocks_for}
use Rattle.shelf.specs.Judge.{blocks}
use Rattle.shelf.specs.Shelf.{gives, shelf_read}
use Rattle.shelf.specs.Theorems.{Octets}
use Rattle.shelf.specs.Salvage.{Salvaged, dropped_in, stretches, kept_of, entries_of, salvage}

-- (d) of the bytes from lo up to hi each is in a kept record or counted as dropped, where records are kept from start up to stop
abbrev pub kept_in : (lo hi start stop : ℕ) → ℕ
kept_in lo hi start stop = min hi stop - max lo start

abbrev pub Accounts : Type 0
Accounts = (lo hi start stop : ℕ) → lo ≤ hi → start ≤ stop → hi - lo ≡ kept_in lo hi start stop + dropped_in lo hi start stop

-- (e) a file that the reader accepts is salvaged as it is: the new file is the file, and the list is empty
abbrev pub unchanged : (records stream bytes : ℕ) → List ℕ → Salvaged
unchanged records stream bytes file =
    record { answer = record { number = 0; place = 0; records = records; stream = stream; file = bytes }; entries = 0; lost = 0; file = file; list = [] }

abbrev pub Stays : Type 0
Stays =
    (f s : List ℕ) (room list back c n : ℕ) → Octets f → shelf_read f back ≡ gives c n (length f) s → length f ≤ room
    → salvage f room list ≡ unchanged c n (length f) f

-- (g) the list has an entry at most for each block that the file begins
abbrev pub begun : List ℕ → ℕ
begun f = blocks f + cond (length f % block_bytes == 0) 0 1

abbrev pub ListRoom : Type 0
ListRoom = (f : List ℕ) → length (entries_of f (stretches f)) ≤ begun f

-- and the new file needs no more than the old one has
abbrev pub FileRoom : Type 0
FileRoom = (f : List ℕ) → blocks_for (length (kept_of f (stretches f))) ≤ blocks f
