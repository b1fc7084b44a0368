-- What the answers of the code mean.
use Rattle.std.specs.Prelude.{ℕ, ◌≡◌, Bool, true, false, Option, Some, None}
use Rattle.signed.specs.Words.{Gap, under, by, sign_of, magnitude_of}

abbrev pub gap_is : Option ℕ → Gap
gap_is None = under
gap_is (Some k) = by k

-- a sign as the wire has it
abbrev pub bit : Bool → ℕ
bit false = 0
bit true = 1

-- the sign and the magnitude are those of the word
pub record Parts (w : ℕ) (negative : Bool) (magnitude : ℕ) : Type 0 where
  pub sign_is : bit negative ≡ sign_of w
  pub magnitude_is : magnitude ≡ magnitude_of w
