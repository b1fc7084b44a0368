-- The first i bytes stand.
use Prim.Native.Nat.{◌+◌, ◌*◌}
use lib.ListN.{take}
use Rattle.wire.specs.Put.{Wrote}
use Rattle.value.specs.Simple.{bytes}
use Rattle.value.proofs.octets.lay.Given as goal

abbrev pub invariant-loop-i : goal.invariant-loop-i
invariant-loop-i l = Wrote l.initial.buf l.buf (8 * l.q) (bytes (take l.i l.text)) (8 * l.q + 8 * l.i)
