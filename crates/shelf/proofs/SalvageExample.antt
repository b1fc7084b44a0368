-- Examples of a salvage, computed, of the file with one record of two bytes: nothing at all, a spoilt byte, a byte more behind it, the file twice over.
use Rattle.std.proofs.Common.{◌≡◌, ℕ, List, [], ◌∷◌, ◌++◌, set, replicate, refl}
use Rattle.shelf.specs.Stream.{walk_by, walk}
use Rattle.shelf.specs.Block.{bytes_from, sum_to}
use Rattle.shelf.specs.Judge.{zeros_from, some_used, rest_zero, first_inside, zero_first, alone, reason, closes, walked}
use Rattle.shelf.specs.Salvage.{Entry, wanted, stepped, taken, judge, kept_by, ending, stretch, onward, stretches_by, stretches, kept_of, good_entry, bad_entry, good_entries, entries_of}
use Rattle.shelf.proofs.Example.{one, file}

entry : (block reason bytes : ℕ) → Entry
entry block reason bytes = record { block = block; reason = reason; bytes = bytes }

-- nothing at all
nothing : (kept_of [] (stretches []) ≡ []) × (entries_of [] (stretches []) ≡ [])
unfolding stretches stretches_by stretch ending kept_of bytes_from good_entries bad_entry entries_of
nothing = (refl, refl)

-- a byte changed
spoilt : entries_of (set file 100 1) (stretches (set file 100 1)) ≡ entry 0 31 0 ∷ []
unfolding one file entry stretches stretches_by onward judge wanted reason sum_to stretch ending kept_of bytes_from good_entries bad_entry entries_of
spoilt = refl

-- one byte more behind it: the part of a block is bad, and the record stays
longer : (kept_of (file ++ 0 ∷ []) (stretches (file ++ 0 ∷ [])) ≡ one) × (entries_of (file ++ 0 ∷ []) (stretches (file ++ 0 ∷ [])) ≡ entry 1 33 0 ∷ [])
unfolding one file entry stretches stretches_by onward judge wanted taken stepped reason alone some_used rest_zero zeros_from first_inside zero_first walked closes walk walk_by sum_to kept_by stretch ending kept_of bytes_from good_entries good_entry bad_entry entries_of
longer = (refl, refl)

-- the file twice over: its first block is short and not the last, and reading takes up behind it
twice : (kept_of (file ++ file) (stretches (file ++ file)) ≡ one) × (entries_of (file ++ file) (stretches (file ++ file)) ≡ entry 0 33 0 ∷ [])
unfolding one file entry stretches stretches_by onward judge wanted taken stepped reason alone some_used rest_zero zeros_from first_inside zero_first walked closes walk walk_by sum_to kept_by stretch ending kept_of bytes_from good_entries good_entry bad_entry entries_of
twice = (refl, refl)

-- 491 zeros under 7, 8, then 41 under 1, 2, of which one byte stands in the first block: as the page has the two blocks
long : List ℕ
long = (1 ∷ 235 ∷ 0 ∷ 7 ∷ 0 ∷ 8 ∷ []) ++ replicate 491 0

two : List ℕ
two = (0 ∷ 0 ∷ 0 ∷ 0 ∷ 1 ∷ 242 ∷ 0 ∷ 0 ∷ []) ++ long ++ (0 ∷ 0 ∷ 0 ∷ 3 ∷ 229 ∷ 0 ∷ 7 ∷ 0 ∷ 0 ∷ 0 ∷ 1 ∷ 0 ∷ 6 ∷ 255 ∷ 255 ∷ 1 ∷ 0 ∷ 1 ∷ 0 ∷ 2 ∷ 65 ∷ []) ++ replicate 494 0 ++ (3 ∷ 72 ∷ 1 ∷ 0 ∷ [])

-- the second block spoilt: the first record stays, and one byte of the other is dropped
second-spoilt : (kept_of (set two 600 1) (stretches (set two 600 1)) ≡ long) × (entries_of (set two 600 1) (stretches (set two 600 1)) ≡ entry 0 0 1 ∷ entry 1 31 0 ∷ [])
unfolding long two entry stretches stretches_by onward judge wanted taken stepped reason alone some_used rest_zero zeros_from first_inside zero_first walked closes walk walk_by sum_to kept_by stretch ending kept_of bytes_from good_entries good_entry bad_entry entries_of
second-spoilt = (refl, refl)

-- the first one spoilt: the second names no record, and its six bytes are dropped
first-spoilt : (kept_of (set two 100 1) (stretches (set two 100 1)) ≡ []) × (entries_of (set two 100 1) (stretches (set two 100 1)) ≡ entry 0 31 0 ∷ entry 1 0 6 ∷ [])
unfolding long two entry stretches stretches_by onward judge wanted taken stepped reason alone some_used rest_zero zeros_from first_inside zero_first walked closes walk walk_by sum_to kept_by stretch ending kept_of bytes_from good_entries good_entry bad_entry entries_of
first-spoilt = (refl, refl)
