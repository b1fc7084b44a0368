-- The page's file F, computed from its five records of 600, 100, 900, 10 and 300 bytes.
use Rattle.std.proofs.Common.{◌≡◌, ℕ, ◌+◌, List, [], ◌∷◌, ◌++◌, take, drop, replicate, refl}
use Rattle.shelf.specs.Stream.{byte_at, walk_by, walk, first_from}
use Rattle.shelf.specs.Block.{bytes_from, sum_to, body_of, block, name_after, first_in, block_in, cut, file_of}
use Rattle.shelf.specs.Theorems as theorems
use Rattle.shelf.specs.Theorems.{stream_of}

one : (name bytes : ℕ) → theorems.Entry
one name bytes = record { name = name; type = 0; payload = replicate bytes (name + 1) }

stream : List ℕ
stream = stream_of (one 0 600 ∷ one 1 100 ∷ one 2 900 ∷ one 3 10 ∷ one 4 300 ∷ [])

F : List ℕ
F = file_of (byte_at stream) 1940

-- block headers and sums of F, as the page has them
heads : take 8 F ++ take 4 (drop 508 F) ++ take 8 (drop 512 F) ++ take 4 (drop 1020 F) ++ take 8 (drop 1024 F) ++ take 4 (drop 1532 F) ++ take 8 (drop 1536 F) ++ take 4 (drop 2044 F)
    ≡ 0 ∷ 0 ∷ 0 ∷ 0 ∷ 1 ∷ 242 ∷ 0 ∷ 0 ∷ 127 ∷ 197 ∷ 123 ∷ 123 ∷ 0 ∷ 0 ∷ 0 ∷ 1 ∷ 1 ∷ 242 ∷ 0 ∷ 108 ∷ 34 ∷ 120 ∷ 33 ∷ 14
    ∷ 0 ∷ 0 ∷ 0 ∷ 2 ∷ 1 ∷ 242 ∷ 255 ∷ 255 ∷ 122 ∷ 107 ∷ 117 ∷ 117 ∷ 0 ∷ 0 ∷ 0 ∷ 3 ∷ 1 ∷ 190 ∷ 0 ∷ 124 ∷ 224 ∷ 209 ∷ 226 ∷ 102 ∷ []
unfolding F stream one stream_of cut block_in first_in name_after first_from walk walk_by block body_of sum_to bytes_from
heads = refl
