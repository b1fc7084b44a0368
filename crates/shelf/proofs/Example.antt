-- Examples of the request's page, computed: a record of two bytes, its block, and it read back; streams that are refused.
use Rattle.std.proofs.Common.{◌≡◌, ℕ, List, [], ◌∷◌, ◌++◌, set, replicate, refl}
use Rattle.shelf.specs.Answers.{Faulty}
use Rattle.shelf.specs.Stream.{byte_at, walk_by, walk, judged, fault, first_from}
use Rattle.shelf.specs.Block.{bytes_from, sum_to, body_of, block, name_after, first_in, block_in, cut}
use Rattle.shelf.specs.Judge.{zeros_from, some_used, rest_zero, first_inside, zero_first, alone, reason, closes, walked, in_step}
use Rattle.shelf.specs.Shelf.{refuses, gives, onward, write_sound, shelf_write, scan_by, scan, read_scanned, shelf_read}

unfoldable pub one : List ℕ
one = 0 ∷ 2 ∷ 0 ∷ 1 ∷ 0 ∷ 0 ∷ 15 ∷ 128 ∷ []

unfoldable pub file : List ℕ
file = (0 ∷ 0 ∷ 0 ∷ 0 ∷ 0 ∷ 8 ∷ 0 ∷ 0 ∷ []) ++ one ++ replicate 492 0 ++ (0 ∷ 10 ∷ 15 ∷ 129 ∷ [])

-- write 0002 0001 0000 0F80: one block, its sum 000A0F81; 1 record, 8 bytes, 512
written : shelf_write one 512 ≡ gives 1 8 512 file
unfolding one file shelf_write write_sound fault judged walk walk_by cut block_in first_in name_after first_from block body_of sum_to bytes_from
written = refl

back : shelf_read file 8 ≡ gives 1 8 512 one
unfolding one file shelf_read read_scanned scan scan_by onward reason alone some_used rest_zero zeros_from first_inside zero_first in_step walked closes first_from walk walk_by sum_to bytes_from
back = refl

-- into too little room; a wrong sum; number 1 with the sum made right
small : shelf_write one 511 ≡ refuses 21 0
unfolding one shelf_write write_sound fault judged walk walk_by
small = refl

spoilt : shelf_read (set file 100 1) 8 ≡ refuses 31 0
unfolding one file shelf_read read_scanned scan scan_by reason sum_to
spoilt = refl

-- streams that are no whole records, or have a length over the most
cut_short : fault (byte_at (0 ∷ [])) 1 ≡ Faulty 0
unfolding fault judged walk walk_by
cut_short = refl

over : fault (byte_at (32 ∷ 1 ∷ 0 ∷ 0 ∷ 0 ∷ 0 ∷ [])) 6 ≡ Faulty 0
unfolding fault judged walk walk_by
over = refl

-- 491 zeros under 7, 8, then 2001: the length's second byte is byte 498
in_two : fault (byte_at ((1 ∷ 235 ∷ 0 ∷ 7 ∷ 0 ∷ 8 ∷ []) ++ replicate 491 0 ++ (32 ∷ 1 ∷ []))) 499 ≡ Faulty 1
unfolding fault judged walk walk_by
in_two = refl

-- then 41 under 1, 2: the second block names no record
two_blocks : first_in (byte_at ((1 ∷ 235 ∷ 0 ∷ 7 ∷ 0 ∷ 8 ∷ []) ++ replicate 491 0 ++ (0 ∷ 1 ∷ 0 ∷ 1 ∷ 0 ∷ 2 ∷ 65 ∷ []))) 504 1 ≡ 65535
unfolding first_in name_after first_from walk walk_by
two_blocks = refl
