-- The loop: the first i bytes are the number x.
use Prim.Native.Nat.{◌*◌, ◌^◌, ◌<◌}
use mathlib.Core.Path.{◌≡◌}
use lib.ListN.{take}
use Rattle.wire.specs.Bits.{digits}
use Rattle.value.specs.Simple.{bytes}
use Rattle.writer_parts.proofs.pen.few.Given as goal

abbrev pub invariant-loop-b : goal.invariant-loop-b
invariant-loop-b l = (l.x < 2 ^ (8 * l.b-index)) × (digits (8 * l.b-index) l.x ≡ bytes (take l.b-index l.text))
