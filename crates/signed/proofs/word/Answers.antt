-- `word`: the low half of the bits.
use mathlib.Core.Path.{ap, ◌∙◌}
use Prim.Native.Nat.{◌%◌, ◌^◌}
use mir.Syntax.{w64}
use mir.Val.{of_z}
use mir.Facts.{to_z-of_z}
use Rattle.signed.proofs.Ways.{word_bits}
use Rattle.signed.proofs.word.Goals as goal

pub returns : goal.returns
returns c = ap (λ n. n % 2 ^ 32) (c.cast_unsigned.ensures ∙ ap (of_z w64) (to_z-of_z c.ranges.v)) ∙ word_bits _ c.ranges.v
