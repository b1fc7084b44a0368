-- The loop: the first i bits stand, and nothing else has changed.
use Prim.Native.Nat.{◌≤◌, ◌-◌, ◌/◌, ◌^◌}
use mathlib.Core.Path.{◌≡◌}
use lib.ListN.{length}
use Rattle.wire.specs.Bits.{bit_at, digits}
use Rattle.wire.specs.Put.{Put}
use Rattle.wire.proofs.writing.put_slow.Given as goal

abbrev pub invariant-loop-i : goal.invariant-loop-i
invariant-loop-i l = (l.i ≤ l.w) × (length l.buf ≡ length l.initial.buf) × Put (bit_at l.initial.buf) (bit_at l.buf) l.at (digits l.i (l.v / 2 ^ (l.w - l.i)))
