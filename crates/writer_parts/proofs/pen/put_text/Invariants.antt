-- The loop: the first 16 i bytes are drawn.
use Prim.Native.Nat.{◌*◌}
use mathlib.Core.Path.{◌≡◌}
use lib.ListN.{length, take}
use Rattle.value.specs.Simple.{bytes}
use Rattle.writer_parts.specs.Pen.{Drawn}
use Rattle.writer_parts.proofs.pen.put_text.Given as goal

abbrev pub invariant-loop-i : goal.invariant-loop-i
invariant-loop-i l = (length l.payload ≡ length l.initial.payload) × Drawn l.initial.payload l.payload l.initial.q l.q (bytes (take (16 * l.i) l.text))
