-- The signed numbers that words stand for.
use Rattle.std.specs.Prelude.{ℕ, zero, suc, ℤ, pos, negsuc, neg_ℤ}
use Rattle.signed.specs.Words.{Gap, under, by}

-- a difference as a gap
abbrev pub gap_as : ℤ → Gap
gap_as (pos k) = by k
gap_as (negsuc n) = under

-- the number of a sign bit and a magnitude
unfoldable pub number : ℕ → ℕ → ℤ
number zero m = pos m
number (suc s) m = neg_ℤ (pos m)
