-- The cycle: each need by the ways of its function; the measure is the rows still allowed open.
use Prim.Native.Nat.{ℕ}
use mathlib.Core.Path.{refl}
use native.Mathlib.Omega.{arith}
use borrow.Author.Rules.{rules}
use Rattle.writer_parts.specs.Walk.{Walks, past}
use Rattle.table.proofs.RowsInside.{type-inside, particle-inside}
use Rattle.model.specs.Modes.{types_by, row_choices}
use Rattle.std.specs.Prelude.{Ok}
use Rattle.writer_parts.specs.Codes as codes_p
use Rattle.writer.specs.Meaning.{inside·}
use Rattle.writer.proofs.CycleWays.{content-ways, element-word, one-row-ways, particle-ways, rows-ways, row-chosen, cast-went, uncast-went, element-ready, element-unlike, element-uncast, element-unheld, element-stop, element-sealing, element-kept, element-go, inside-stop, inside-rows, inside-none, content-row, rows-known, particle-fits}
use Rattle.writer.proofs.GroupWays.{given-fits, aim-refused, target-type, target-owned, target-depth, target-ready, target-walked, run-within, run-ready, run-walked, run_none, opened-within, opened-walked}
use Rattle.writer_parts.proofs.AttributeWays.{ready_on}
use Rattle.writer.proofs.cycle.+content_element_one_row_particle_rows_in.Goals as goal
use Rattle.writer.proofs.cycle.+content_element_one_row_particle_rows_in.Goals.{element-Joined-choices, element-After-close-arg-1, element-then-choices+in-Ok, element-else-choices, element-in-Particles+in-Ok-s, element-in_default-content}

-- where the ways by an element's codes and without meet
element-cast : (t : ℕ) (c : element-Joined-choices t)
    → codes_p.Went c.args.table.now c.args.events.now c.args.texts.now (types_by c.args.table.now (row_choices c.args.mode.choices c.args.row) c.args.t c.args.row) (past c.args.c) c.args.notes.now c.if-choices.ty c.if-choices.f c.if-choices.notes
element-cast t c =
    let fine = c.in_default.not-Err in
    let by = c.of_row-choices.ensures in
    elim c.if-choices.branch [
      | element-then-choices+in-Ok w ↦ rw (w.notes-is, w.f-is, w.ty-is) (cast-went _ _ _ _ _ _ _ _ (rw by at w.note_codes.ensures) _ _ w.in-Ok.is)
      | element-else-choices w ↦
          rw (w.notes-is, w.f-is, w.ty-is)
          (uncast-went _ _ _ _ _ _ _ _ (row-chosen _ _ _ c.requires.2 c.requires.1.choosing.neither) (rw by at w.if-choices.false) c.requires.3
          (element-ready _ _ _ _ c.requires.0 _ _ c.unlike_start.ensures fine))
    ]

-- where the ways by an element's content row and without one meet
element-inside : (t : ℕ) (c : element-After-close-arg-1 t)
    → Walks c.args.events.now c.args.texts.now (inside· c.args.table.now c.args.mode c.args.depth c.if-choices.ty) c.if-choices.f c.if-choices.notes (Ok c.match-content.end) c.match-content.notes
element-inside t c =
    elim c.match-content.branch [
      | element-in-Particles+in-Ok-s w ↦
          rw (w.notes-is, w.end-is)
          (inside-rows _ _ _ _ _ c.args.mode c.args.depth _ _ _ c.before_rows-r.ensures _ c.in-Ok-r.is _ c.content.ensures _ w.in-Particles.is _ _ (rw w.in-Ok-s.is at w.content-s.ensures))
      | element-in_default-content w ↦
          rw (w.notes-is, w.end-is)
          (inside-none _ _ _ _ _ c.args.mode c.args.depth _ _ _ c.before_rows-r.ensures _ c.in-Ok-r.is _ c.content.ensures w.in_default-content.not-Particles)
    ]

pub content-particle-p-requires : goal.content-particle-p-requires
content-particle-p-requires t c = particle-inside _ c.requires.1.is _ c.requires.2

pub content-particle-requires : goal.content-particle-requires
content-particle-requires t c =
    let deep = c.if-depth-gt0.true in
    let within = opened-within _ c.args.mode _ c.requires.1 c.requires.2 _ c.particle-p.ensures _ _ c.in-Sequence.is in
    (omega (arith, c.decreases, deep), (c.requires.0, c.requires.1, rows-known _ c.args.mode c.requires.1 _ _ _ within, omega (arith, c.requires.3)))

pub content-returns-in-Sequence : goal.content-returns-in-Sequence
content-returns-in-Sequence t c =
    opened-walked _ c.args.mode _ c.requires.1 c.requires.2 _ c.particle-p.ensures _ _ c.in-Sequence.is _ _ _ _ c.args.depth c.if-depth-gt0.true _ _ c.particle.ensures

pub content-returns : goal.content-returns
content-returns t c = search (rules, content-ways)

pub element-bounds-events-at : goal.element-bounds-events-at
element-bounds-events-at t c = search (rules, element-word)

pub element-note_codes-requires : goal.element-note_codes-requires
element-note_codes-requires t c =
    let fine = c.in_default.not-Err in
    (element-ready _ _ _ _ c.requires.0 _ _ c.unlike_start.ensures fine, c.requires.1.is, c.requires.3, rw c.of_row-choices.ensures (row-chosen _ _ _ c.requires.2 c.requires.1.choosing.neither))

pub element-returns-in-Err : goal.element-returns-in-Err
element-returns-in-Err t c = element-unlike _ _ _ _ c.requires.0 _ c.args.mode c.args.depth _ _ _ c.unlike_start.ensures _ c.in-Err.is

pub element-returns-in-Err-note_codes : goal.element-returns-in-Err-note_codes
element-returns-in-Err-note_codes t c =
    let fine = c.in_default.not-Err in
    element-uncast _ _ _ _ c.requires.0 _ c.args.mode c.args.depth _ _ _ c.unlike_start.ensures fine _ _ (rw c.of_row-choices.ensures at c.note_codes.ensures) _ c.in-Err-note_codes.is

pub element-held-held-requires : goal.element-held-held-requires
element-held-held-requires t c = (type-inside _ c.requires.1.is _ (element-cast t c).known, omega (arith, c.requires.1.party_known))

pub element-returns-then-not-held : goal.element-returns-then-not-held
element-returns-then-not-held t c =
    let fine = c.in_default.not-Err in
    search (element-unheld, c.requires.0, c.unlike_start.ensures, fine, element-cast t (goal.at.element-returns-then-not-held t c).Joined-choices, c.held-held.ensures, c.if-not-held.true)

pub element-before_rows-r-requires : goal.element-before_rows-r-requires
element-before_rows-r-requires t c =
    ((element-cast t (goal.at.element-before_rows-r-requires t c).Joined-choices).ready, c.requires.1.is, (element-cast t (goal.at.element-before_rows-r-requires t c).Joined-choices).known)

pub element-returns-in_default-r : goal.element-returns-in_default-r
element-returns-in_default-r t c =
    let fine = c.in_default.not-Err in
    let i = inside-stop _ _ _ _ _ c.args.mode c.args.depth _ _ _ c.before_rows-r.ensures _ c.in_default-r.is in
    element-stop _ _ _ _ c.requires.0 _ c.args.mode c.args.depth _ _ _ c.unlike_start.ensures fine _ _ _ (element-cast t (goal.at.element-returns-in_default-r t c).Joined-choices) _ c.held-held.ensures c.if-not-held.false _ _ i _ c.in_default-r.is

pub element-content-requires : goal.element-content-requires
element-content-requires t c = type-inside _ c.requires.1.is _ (element-cast t (goal.at.element-content-requires t c).Joined-choices).known

pub element-content-s-requires : goal.element-content-s-requires
element-content-s-requires t c =
    (omega (arith, c.decreases), (search (ready_on, c.before_rows-r.ensures, c.in-Ok-r.is), c.requires.1, search (content-row, c.requires.1, (element-cast t (goal.at.element-content-s-requires t c).Joined-choices).known, c.content.ensures, c.in-Particles.is), c.requires.4))

pub element-returns-in_default-s : goal.element-returns-in_default-s
element-returns-in_default-s t c =
    let fine = c.in_default.not-Err in
    let i = inside-rows _ _ _ _ _ c.args.mode c.args.depth _ _ _ c.before_rows-r.ensures _ c.in-Ok-r.is _ c.content.ensures _ c.in-Particles.is _ _ c.content-s.ensures in
    element-stop _ _ _ _ c.requires.0 _ c.args.mode c.args.depth _ _ _ c.unlike_start.ensures fine _ _ _ (element-cast t (goal.at.element-returns-in_default-s t c).Joined-choices) _ c.held-held.ensures c.if-not-held.false _ _ i _ c.in_default-s.is

pub element-close-requires : goal.element-close-requires
element-close-requires t c =
    let fine = c.in_default.not-Err in
    (element-kept _ _ _ _ c.requires.0 _ c.args.mode c.args.depth _ _ _ c.unlike_start.ensures fine _ _ _ (element-cast t (goal.at.element-close-requires t c).Joined-choices) _ c.held-held.ensures c.if-not-held.false _ _ (element-inside t c) _ refl, element-sealing _ _ _ _ c.requires.0 _ c.args.mode c.args.depth _ _ _ c.unlike_start.ensures fine _ _ _ (element-cast t (goal.at.element-close-requires t c).Joined-choices) _ c.held-held.ensures c.if-not-held.false _ _ (element-inside t c) _ refl)

pub element-returns : goal.element-returns
element-returns t c =
    let fine = c.in_default.not-Err in
    element-go _ _ _ _ c.requires.0 _ c.args.mode c.args.depth _ _ _ c.unlike_start.ensures fine _ _ _ (element-cast t (goal.at.element-returns t c).Joined-choices) _ c.held-held.ensures c.if-not-held.false _ _ (element-inside t (goal.at.element-returns t c).After-close-arg-1) _ refl _ _ c.close.ensures

pub one_row-returns-then-depth-eq0 : goal.one_row-returns-then-depth-eq0
one_row-returns-then-depth-eq0 t c = search (rules, one-row-ways)

pub one_row-reached-requires : goal.one_row-reached-requires
one_row-reached-requires t c =
    (c.requires.0, c.requires.1.is, given-fits _ c.args.mode _ _ _ c.requires.1 c.requires.2 _ c.row_for-row.ensures)

pub one_row-element-requires : goal.one_row-element-requires
one_row-element-requires t c =
    let at_row = c.row_for-row.ensures in
    let at-aim = c.reached.ensures in
    let z = c.if-depth-eq0.false in
    let w = (rw c.in-Ok-Element.field-0-is at c.in-Ok-Element.is) in
    let less = target-depth _ _ _ _ _ c.args.mode c.args.depth _ _ _ z c.requires.1 c.requires.2 _ at_row _ _ at-aim _ w in
    (omega (arith, c.decreases, less, z), (target-ready _ _ _ _ _ c.args.mode c.args.depth _ _ _ z c.requires.1 c.requires.2 _ at_row _ _ at-aim _ w, c.requires.1, target-owned _ _ _ _ _ c.args.mode c.args.depth _ _ _ z c.requires.1 c.requires.2 _ at_row _ _ at-aim _ w, target-type _ _ _ _ _ c.args.mode c.args.depth _ _ _ z c.requires.1 c.requires.2 _ at_row _ _ at-aim _ w, omega (arith, c.requires.3, less)))

pub one_row-returns-then-n-eq0 : goal.one_row-returns-then-n-eq0
one_row-returns-then-n-eq0 t c =
    let at_row = c.row_for-row.ensures in
    let at-aim = c.reached.ensures in
    let z = c.if-depth-eq0.false in
    run_none _ _ _ _ _ c.args.mode c.args.depth _ _ _ z c.requires.1 c.requires.2 _ at_row _ _ at-aim _ (rw c.in-Ok-Rows.field-0-is at c.in-Ok-Rows.is) c.if-n-eq0.true

pub one_row-rows_in-requires : goal.one_row-rows_in-requires
one_row-rows_in-requires t c =
    let at_row = c.row_for-row.ensures in
    let at-aim = c.reached.ensures in
    let z = c.if-depth-eq0.false in
    let w = (rw c.in-Ok-Rows.field-0-is at c.in-Ok-Rows.is) in
    (omega (arith, c.decreases, z), (run-ready _ _ _ _ _ c.args.mode c.args.depth _ _ _ z c.requires.1 c.requires.2 _ at_row _ _ at-aim _ w, c.requires.1, run-within _ _ _ _ _ c.args.mode c.args.depth _ _ _ z c.requires.1 c.requires.2 _ at_row _ _ at-aim _ w, omega (arith, c.requires.3)))

pub one_row-returns-in-Ok-Element : goal.one_row-returns-in-Ok-Element
one_row-returns-in-Ok-Element t c =
    let at_row = c.row_for-row.ensures in
    let at-aim = c.reached.ensures in
    let z = c.if-depth-eq0.false in
    target-walked _ _ _ _ _ c.args.mode c.args.depth _ _ _ z c.requires.1 c.requires.2 _ at_row _ _ at-aim _ (rw c.in-Ok-Element.field-0-is at c.in-Ok-Element.is) _ _ c.element.ensures

pub one_row-returns-else-n-eq0 : goal.one_row-returns-else-n-eq0
one_row-returns-else-n-eq0 t c =
    let at_row = c.row_for-row.ensures in
    let at-aim = c.reached.ensures in
    let z = c.if-depth-eq0.false in
    run-walked _ _ _ _ _ c.args.mode c.args.depth _ _ _ z c.requires.1 c.requires.2 _ at_row _ _ at-aim _ (rw c.in-Ok-Rows.field-0-is at c.in-Ok-Rows.is) _ _ c.rows_in.ensures

pub one_row-returns-in-Err : goal.one_row-returns-in-Err
one_row-returns-in-Err t c =
    let z = c.if-depth-eq0.false in
    aim-refused _ _ _ _ _ c.args.mode c.args.depth _ _ _ z c.requires.1 c.requires.2 _ c.row_for-row.ensures _ _ c.reached.ensures _ c.in-Err.is

pub particle-returns-in_default : goal.particle-returns-in_default
particle-returns-in_default t c = search (rules, particle-ways)

pub particle-overflow_add-i : goal.particle-overflow_add-i
particle-overflow_add-i t c = search (particle-fits, c.requires.2, c.loop-j.invariant.3, c.loop-j-test.true)

pub particle-loop-j-preserved : goal.particle-loop-j-preserved
particle-loop-j-preserved t c = search (rules, particle-ways)

pub particle-returns : goal.particle-returns
particle-returns t c = search (rules, particle-ways)

pub rows_in-returns : goal.rows_in-returns
rows_in-returns t c = search (rules, rows-ways)
