-- Bits packed into bytes, the last byte filled up with zeros.
use Rattle.std.specs.Prelude.{ℕ, ◌+◌, ◌/◌, List, length}
use Rattle.wire.specs.Bits.{source}
use Rattle.value.specs.Simple.{bytes_at}

unfoldable pub pack : List ℕ → List ℕ
pack w = bytes_at (source w) 0 ((length w + 7) / 8)
