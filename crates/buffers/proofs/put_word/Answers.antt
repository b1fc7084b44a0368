-- The four bytes of a word, the highest first.
use Prim.Native.Nat.{◌+◌, ◌/◌, ◌%◌}
use mathlib.Core.Path.{◌≡◌, refl, ◌∙◌}
use native.Mathlib.Omega.{arith}
use Rattle.buffers.specs.Bytes.{four}
use Rattle.buffers.proofs.Loops.{part_put}
use Rattle.buffers.proofs.put_word.Goals as goal

pub returns : goal.returns
returns c = let a = c.args in
    let q : a.w / 16777216 % 256 ≡ a.w / 16777216 = omega arith in
    part_put a.s.now (four a.w) _ a.at (a.at + 4) (omega arith) refl (c.copy_from_slice.ensures.after ∙ c.to_be_bytes.ensures ∙ rw q)
