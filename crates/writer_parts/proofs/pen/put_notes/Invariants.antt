-- The loop: the first i notes are drawn.
use mathlib.Core.Path.{◌≡◌}
use lib.ListN.{length}
use Rattle.writer_parts.specs.Notes.{spells}
use Rattle.writer_parts.specs.Pen.{Drawn}
use Rattle.writer_parts.proofs.pen.put_notes.Given as goal

abbrev pub invariant-loop-x : goal.invariant-loop-x
invariant-loop-x l = (length l.payload ≡ length l.initial.payload) × Drawn l.initial.payload l.payload l.initial.p l.p (spells l.texts l.notes 0 l.x-index)
