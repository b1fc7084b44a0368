-- The loop: the first i notes are drawn.
use mathlib.Core.Path.{ap, ◌∙◌}
use lib.ListN.{length}
use Rattle.writer_parts.proofs.PenWays.{put_notes_ways, notes-turn, notes-pass}
use borrow.Author.Rules.{rules}
use Rattle.writer_parts.proofs.pen.put_notes.Goals as goal
use Rattle.writer_parts.proofs.pen.put_notes.Goals.{then-x-gt0, else-x-gt0}

pub loop-x-init : goal.loop-x-init
loop-x-init c = search (rules, put_notes_ways)

pub put_note-p-requires : goal.put_note-p-requires
put_note-p-requires c = search (rules, put_notes_ways)

pub loop-x-preserved : goal.loop-x-preserved
loop-x-preserved c =
    let l = c.loop-x in
    let b = c.begin-p in
    elim c.if-x-gt0.branch [
      | then-x-gt0 w ↦ (
        ap length w.payload-is ∙ w.put_note-p.auto.payload ∙ l.invariant.0,
        rw (w.payload-is, w.p-is) (notes-turn _ _ _ _ _ b.ensures _ c.requires.0 _ _ _ l.invariant.0 l.invariant.1 c.loop-x-test.true _ _ w.put_note-p.ensures),
      )
      | else-x-gt0 w ↦ (
        ap length w.payload-is ∙ l.invariant.0,
        rw (w.payload-is, w.p-is) (notes-pass _ _ _ _ _ b.ensures _ c.requires.0 _ _ _ l.invariant.0 l.invariant.1 c.loop-x-test.true w.if-x-gt0.false),
      )
    ]

pub end-requires : goal.end-requires
end-requires c = search (rules, put_notes_ways)

pub returns : goal.returns
returns c = search (rules, put_notes_ways)
