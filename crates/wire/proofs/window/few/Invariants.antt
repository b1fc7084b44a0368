-- The loop: v is the number that the first k bytes are.
use Prim.Native.Nat.{◌≤◌, ◌*◌}
use mathlib.Core.Path.{◌≡◌}
use Rattle.wire.specs.Bits.{bit_at, num}
use Rattle.wire.proofs.window.few.Given as goal

abbrev pub invariant-loop-k : goal.invariant-loop-k
invariant-loop-k l = (l.k ≤ 8) × (l.v ≡ num (bit_at l.s) (8 * l.i) (8 * l.k))
