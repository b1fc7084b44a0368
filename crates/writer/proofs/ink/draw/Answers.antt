-- The mode byte, then the notes: the pen leaves what the meaning packs.
use native.Mathlib.Omega.{arith}
use mathlib.Core.Path.{◌∙◌}
use lib.ListN.{length-set}
use Rattle.writer.proofs.InkLaws.{draw-done}
use Rattle.writer.proofs.ink.draw.Goals as goal

pub shape_of-payload : goal.shape_of-payload
shape_of-payload c = c.put_notes.auto.payload ∙ simp length-set

pub returns : goal.returns
returns c = let g = c.requires in
    draw-done _ _ c.args.mode _ _ _ g.0 c.first-x.ensures g.1 _ _ c.put_notes.ensures c.put_notes.auto.payload (λ i. omega (arith, c.type_inv.payload i))
