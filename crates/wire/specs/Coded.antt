-- A code as a number.
use Rattle.std.specs.Prelude.{ℕ, ◌^◌, ◌<◌, ◌≡◌, List}
use Rattle.wire.specs.declared.Coded.{Coded}
use Rattle.wire.specs.Bits.{digits}

-- it is these bits, and no bit is set above them
pub record Codes (c : Coded) (l : List ℕ) : Type 0 where
  pub is : digits c.size c.bits ≡ l
  pub low : c.bits < 2 ^ c.size
