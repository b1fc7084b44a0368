-- Cases at the ends of the signed range and across 0, computed from the definitions, under one statement.
use Prim.Native.Nat.{ℕ, ◌+◌, ◌-◌, ◌^◌}
use mathlib.Core.Path.{◌≡◌, refl}
use lib.IntN.{pos, negsuc}
use mir.Syntax.{w32}
use mir.Val.{to_z}
use Rattle.signed.specs.Words.{rank, under, by, gap_of, up, down, sign_of, magnitude_of, word_of, wrapped}

-- the words of -2^31, 2^31 - 1, -3 and -1
abbrev pub lowest : ℕ
lowest = 0x80000000

abbrev pub highest : ℕ
highest = 0x7fffffff

abbrev pub minus3 : ℕ
minus3 = 0xfffffffd

abbrev pub minus1 : ℕ
minus1 = 0xffffffff

pub record Cases : Type 0 where
  pub lowest_number : to_z w32 lowest ≡ negsuc (2 ^ 31 - 1)
  pub minus3_number : to_z w32 minus3 ≡ negsuc 2
  pub ranks : (rank lowest ≡ 0) × (rank minus1 ≡ 2 ^ 31 - 1) × (rank 0 ≡ 2 ^ 31) × (rank highest ≡ 2 ^ 32 - 1)
  pub across_zero : gap_of minus3 4 ≡ by 7
  pub whole_range : gap_of lowest highest ≡ by (2 ^ 32 - 1)
  pub no_way : gap_of minus3 minus3 ≡ by 0
  pub down_from_zero : gap_of 0 minus1 ≡ under
  pub down_from_highest : gap_of highest lowest ≡ under
  pub raised : (up minus3 7 ≡ 4) × (up lowest (2 ^ 32 - 1) ≡ highest) × (up minus3 2 ≡ minus1)
  pub lowered : (down minus3 4 ≡ 7) × (down lowest highest ≡ 2 ^ 32 - 1) × (down 0 minus1 ≡ minus1)
  pub lowest_parts : (sign_of lowest ≡ 1) × (magnitude_of lowest ≡ 2 ^ 31) × (word_of 1 (2 ^ 31) ≡ lowest)
  pub minus1_parts : (sign_of minus1 ≡ 1) × (magnitude_of minus1 ≡ 1) × (word_of 1 1 ≡ minus1)
  pub zero_parts : (sign_of 0 ≡ 0) × (magnitude_of 0 ≡ 0) × (word_of 1 0 ≡ 0)
  pub wraps : (wrapped (negsuc 2) ≡ minus3) × (wrapped (negsuc (2 ^ 32)) ≡ minus1) × (wrapped (pos (2 ^ 32 + 5)) ≡ 5)

pub cases : Cases
unfolding gap_of sign_of magnitude_of word_of wrapped
cases =
    record {
      lowest_number = refl;
      minus3_number = refl;
      ranks = (refl, refl, refl, refl);
      across_zero = refl;
      whole_range = refl;
      no_way = refl;
      down_from_zero = refl;
      down_from_highest = refl;
      raised = (refl, refl, refl);
      lowered = (refl, refl, refl);
      lowest_parts = (refl, refl, refl);
      minus1_parts = (refl, refl, refl);
      zero_parts = (refl, refl, refl);
      wraps = (refl, refl, refl);
    }
