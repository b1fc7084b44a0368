-- Words added in lanes: what the functions answer that add up a block.
use Rattle.std.specs.Prelude.{◌≡◌, ℕ, ◌+◌, ◌*◌, ◌/◌, ◌%◌, ◌<◌, List, slice_index, slice_index_or}

-- the word of four bytes, the least significant first
pub record Little (s : List ℕ) (at w : ℕ) : Type 0 where
  pub is : w ≡ slice_index s at + slice_index s (at + 1) * 256 + slice_index s (at + 2) * 65536 + slice_index s (at + 3) * 16777216
  pub first : slice_index_or s at 0 < 256
  pub second : slice_index_or s (at + 1) 0 < 256
  pub third : slice_index_or s (at + 2) 0 < 256
  pub fourth : slice_index_or s (at + 3) 0 < 256

-- bytes 0 and 2 of a word, in lanes of 16 bits
abbrev pub apart : ℕ → ℕ
apart w = w % 256 + w / 65536 % 256 * 65536

-- the sums of lanes as one number: of bytes 0 and 2, and of bytes 1 and 3
abbrev pub together : (even odd : ℕ) → ℕ
together even odd = (even % 256 * 16777216 + odd % 65536 * 65536 + (even / 65536 * 256 + odd / 65536)) % 4294967296
