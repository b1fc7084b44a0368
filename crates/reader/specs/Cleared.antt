-- A lent buffer that holds zeros only.
use Rattle.std.specs.Prelude.{ℕ, ◌≡◌, List, length, replicate}

-- a buffer of zeros
abbrev pub Zeros : List ℕ → Type 0
Zeros l = l ≡ replicate (length l) 0
