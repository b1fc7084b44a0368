-- The first i bytes stand once byte q + i is closed.
use Prim.Native.Nat.{◌+◌, ◌*◌}
use lib.ListN.{take}
use Rattle.wire.specs.Put.{Wrote}
use Rattle.value.specs.Simple.{bytes}
use Rattle.value.proofs.LayWays.{closed}
use Rattle.value.proofs.octets.lay_slanted.Given as goal

abbrev pub invariant-loop-i : goal.invariant-loop-i
invariant-loop-i l = Wrote l.initial.buf (closed l.k l.c (l.q + l.i) l.buf) (8 * l.q + l.k) (bytes (take l.i l.text)) (8 * l.q + l.k + 8 * l.i)
