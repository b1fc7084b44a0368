-- What the pen promises: whole words of bits stand in the buffer, and fewer than 64 wait.
use Rattle.std.specs.Prelude.{ℕ, ◌+◌, ◌*◌, ◌^◌, ◌<◌, ◌≤◌, ◌≡◌, List, ◌++◌, length}
use Rattle.wire.specs.Bits.{bit_at, digits, Has}
use Rattle.wire.specs.Put.{Wrote}
use Rattle.writer_parts.specs.declared.pen.Pen.{Pen}

-- the bits that wait
abbrev pub waits : Pen → List ℕ
waits p = digits p.count p.waiting

-- there is room for what waits and n bits more
pub record Spare (s : List ℕ) (p : Pen) (n : ℕ) : Type 0 where
  pub few : p.count < 64
  pub fits : 8 * p.next + p.count + n ≤ 8 * length s
  pub near : 8 * p.next + p.count + n < 2 ^ 32

-- the bits l were drawn: from the pen p over the buffer s it came to the pen q over the buffer t
pub record Drawn (s t : List ℕ) (p q : Pen) (l : List ℕ) : Type 0 where
  pub put : List ℕ
  pub same : waits p ++ l ≡ put ++ waits q
  pub stands : Wrote s t (8 * p.next) put (8 * q.next)
  pub few : q.count < 64

-- a pen at a place of the buffer: the bits of its byte before it wait
pub record Begun (s : List ℕ) (at : ℕ) (p : Pen) : Type 0 where
  pub place : 8 * p.next + p.count ≡ at
  pub few : p.count < 8
  pub stands : Has (bit_at s) (8 * p.next) (waits p)
