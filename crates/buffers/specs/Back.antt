-- What a host gets back of a call: the number, the area, and each output buffer.
use Rattle.std.specs.Prelude.{ℕ, List, replicate}

pub record Back : Type 0 where
  pub number : ℕ
  pub area : List ℕ
  pub buffers : List (List ℕ)

abbrev pub back : ℕ → List ℕ → List (List ℕ) → Back
back number area buffers = record { number = number; area = area; buffers = buffers }

abbrev pub zeros : ℕ → List ℕ
zeros n = replicate n 0
