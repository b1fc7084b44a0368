-- The cycle of the reader, whole: each function walks as its meaning says. Depth falls at each row; within a row the calls go element, content,
use Prim.Native.Nat.{◌<◌, ◌+◌, ◌-◌}
use mathlib.Core.Path.{◌≡◌, refl, ◌∙◌}
use native.Mathlib.Omega.{arith}
use lib.ListN.{length, set}
use borrow.Author.Rules.{rules}
use Rattle.reader_parts.specs.Paths.{names_of}
use Rattle.reader_parts.proofs.PathLaws.{push-names}
use Rattle.reader.specs.Meaning.{row_for}
use Rattle.std.specs.Prelude.{Ok, Err}
use Rattle.reader.specs.declared.refusal_path.Halt.TheVariants.{Untold, Told}
use Rattle.reader.proofs.Asked.{asked-ways, ready-leaf, entry_ready, entry_known, aim-element, aim-known, path-row, known_step, known-fits, known-rest, ready-row}
use Rattle.reader.proofs.RefusalPathLaws.{err_is, halted, halts, named-go, named-told}
use Rattle.reader.proofs.Ways.{more, list-stop, list-again, list-end, row-deep, row-refuse, row_done, row-full, row_in, row-in-told, row-stop, row_next, row-rows, rest-deep, rest_left, rest-go, rest-short, content-pushed}
use Rattle.reader.proofs.cycle.+content_element_particle_rows_in.Goals as goal
use Rattle.reader.proofs.cycle.+content_element_particle_rows_in.Goals.{particle-in-Go, particle-in-Element+in-Done, particle-in-Element+in-In+in-Ok, particle-in-Rows+in-Ok-w}

pub content-returns : goal.content-returns
content-returns t c = let path = c.args.path in
    let spare : path.count < length path.names = search (rules, c.well_formed.1.1.1.1.1.1.1.1.1.0, c.requires.2) in
    content-pushed c.args.table.now c.args.payload.now c.args.mode c.args.depth c.args.x.first c.args.x.step c.args.x.count c.args.wall.0 c.args.x.cursor path (record { names = set path.names path.count c.args.name; count = path.count + 1 }) c.args.name c.args.events.now c.args.texts.now c.rows_in.result c.rows_in.new.told c.rows_in.new.events c.rows_in.new.texts (push-names path _ c.args.name spare refl refl) c.rows_in.ensures

pub element-returns-then-depth-opens : goal.element-returns-then-depth-opens
element-returns-then-depth-opens t c = search (rules, rest-deep)

pub element-content-w-requires : goal.element-content-w-requires
element-content-w-requires t c = search (rules, asked-ways)

pub element-returns-in_default : goal.element-returns-in_default
element-returns-in_default t c = search (rules, rest_left, halts c.content-w.result c.in_default.not-Ok)

pub element-close-requires : goal.element-close-requires
element-close-requires t c = search (rules, asked-ways)

pub element-returns-in-Err : goal.element-returns-in-Err
element-returns-in-Err t c = search (rules, rest-short, c.in-Ok.is, c.in-Err.is)

pub element-returns-in-Ok-close : goal.element-returns-in-Ok-close
element-returns-in-Ok-close t c = search (rules, rest-go, c.in-Ok.is, c.in-Ok-close.is)

pub particle-loop-j-init : goal.particle-loop-j-init
particle-loop-j-init t c =
    let z : c.args.count - 0 ≡ c.args.count = omega arith in
    (refl, refl, rw z c.requires.1, rw z refl)

pub particle-returns-then-depth-eq0 : goal.particle-returns-then-depth-eq0
particle-returns-then-depth-eq0 t c = search (list-stop, row-deep, halted, c.loop-j.invariant.3, (more _ _ c.loop-j-test.true), c.if-depth-eq0.true)

pub particle-overflow_sub-d : goal.particle-overflow_sub-d
particle-overflow_sub-d t c = search (rules, asked-ways)

pub particle-row_for-row-requires : goal.particle-row_for-row-requires
particle-row_for-row-requires t c = search (rules, asked-ways)

pub particle-overflow_add-i : goal.particle-overflow_add-i
particle-overflow_add-i t c = search (rules, known_step, c.loop-j.invariant.2, (more _ _ c.loop-j-test.true))

pub particle-reached-g-requires : goal.particle-reached-g-requires
particle-reached-g-requires t c = (c.requires.0.valid, c.requires.0.walls, (known-fits c.args.table.now c.args.name c.args.t c.loop-j.i c.args.step (c.args.count - c.loop-j.j) c.loop-j.invariant.2 (more _ _ c.loop-j-test.true) c.row_for-row.result c.row_for-row.ensures))

pub particle-returns-in-Refuse : goal.particle-returns-in-Refuse
particle-returns-in-Refuse t c = list-stop c.args.table.now c.args.payload.now c.args.mode c.args.name c.args.t c.args.depth c.args.wall.0 c.args.step c.loop-j.i (c.args.count - c.loop-j.j) c.loop-j.cursor (names_of c.args.path) c.loop-j.events c.loop-j.texts c.args.first c.args.count c.args.c c.args.events.now c.args.texts.now c.loop-j.invariant.3 (Err (Untold _)) c.loop-j.told c.reached-g.new.events c.loop-j.texts (more _ _ c.loop-j-test.true) (row-stop c.args.table.now c.args.payload.now c.args.mode c.args.depth c.args.wall.0 c.loop-j.cursor (names_of c.args.path) c.loop-j.events c.loop-j.texts (row_for c.args.table.now c.args.name c.args.t c.loop-j.i) c.row_for-row.result c.row_for-row.ensures (ready-leaf _ _ _ _ _ _ c.requires.0) c.if-depth-eq0.false _ _ c.reached-g.ensures c.loop-j.told _ c.in-Refuse.is) (halted _)

pub particle-enter-e-requires : goal.particle-enter-e-requires
particle-enter-e-requires t c = ((ready-leaf _ _ _ _ _ _ c.requires.0), (aim-element _ _ _ _ _ _ _ _ _ _ c.reached-g.ensures c.in-Element.is).1, (aim-element _ _ _ _ _ _ _ _ _ _ c.reached-g.ensures c.in-Element.is).2)

pub particle-returns-in-Refuse-e : goal.particle-returns-in-Refuse-e
particle-returns-in-Refuse-e t c = list-stop c.args.table.now c.args.payload.now c.args.mode c.args.name c.args.t c.args.depth c.args.wall.0 c.args.step c.loop-j.i (c.args.count - c.loop-j.j) c.loop-j.cursor (names_of c.args.path) c.loop-j.events c.loop-j.texts c.args.first c.args.count c.args.c c.args.events.now c.args.texts.now c.loop-j.invariant.3 (Err (Untold _)) c.loop-j.told c.enter-e.new.events c.enter-e.new.texts (more _ _ c.loop-j-test.true) (row-refuse c.args.table.now c.args.payload.now c.args.mode c.args.depth c.args.wall.0 c.loop-j.cursor (names_of c.args.path) c.loop-j.events c.loop-j.texts (row_for c.args.table.now c.args.name c.args.t c.loop-j.i) c.row_for-row.result c.row_for-row.ensures (ready-leaf _ _ _ _ _ _ c.requires.0) c.if-depth-eq0.false _ _ c.reached-g.ensures _ c.in-Element.is _ _ _ c.enter-e.ensures c.loop-j.told _ c.in-Refuse-e.is) (halted _)

pub particle-tell-requires : goal.particle-tell-requires
particle-tell-requires t c = (path-row _ _ _ _ _ _ c.requires.0 c.if-depth-eq0.false, (aim-element _ _ _ _ _ _ _ _ _ _ c.reached-g.ensures c.in-Element.is).0)

pub particle-returns-in-Full : goal.particle-returns-in-Full
particle-returns-in-Full t c = list-stop c.args.table.now c.args.payload.now c.args.mode c.args.name c.args.t c.args.depth c.args.wall.0 c.args.step c.loop-j.i (c.args.count - c.loop-j.j) c.loop-j.cursor (names_of c.args.path) c.loop-j.events c.loop-j.texts c.args.first c.args.count c.args.c c.args.events.now c.args.texts.now c.loop-j.invariant.3 (Err c.tell.result) c.tell.new.told c.enter-e.new.events c.enter-e.new.texts (more _ _ c.loop-j-test.true) (row-full c.args.table.now c.args.payload.now c.args.mode c.args.depth c.args.wall.0 c.loop-j.cursor (names_of c.args.path) c.loop-j.events c.loop-j.texts (row_for c.args.table.now c.args.name c.args.t c.loop-j.i) c.row_for-row.result c.row_for-row.ensures (ready-leaf _ _ _ _ _ _ c.requires.0) c.if-depth-eq0.false _ _ c.reached-g.ensures _ c.in-Element.is _ _ _ c.enter-e.ensures c.loop-j.told _ (Err c.tell.result) c.tell.new.told c.in-Full.is c.tell.ensures.0) (halted _)

pub particle-element-w-requires : goal.particle-element-w-requires
particle-element-w-requires t c = (omega (arith, c.decreases, (aim-element _ _ _ _ _ _ _ _ _ _ c.reached-g.ensures c.in-Element.is).3, c.if-depth-eq0.false), (entry_ready _ _ _ _ _ _ c.requires.0 _ _ _ _ _ _ _ _ _ c.enter-e.ensures c.in-In.is _ (omega (arith, (aim-element _ _ _ _ _ _ _ _ _ _ c.reached-g.ensures c.in-Element.is).3, c.if-depth-eq0.false)), (aim-element _ _ _ _ _ _ _ _ _ _ c.reached-g.ensures c.in-Element.is).0, entry_known _ _ _ _ _ _ c.requires.0 _ _ _ _ _ _ _ _ _ c.enter-e.ensures c.in-In.is))

pub particle-tell-requires-in-Err-Untold : goal.particle-tell-requires-in-Err-Untold
particle-tell-requires-in-Err-Untold t c = (path-row _ _ _ _ _ _ c.requires.0 c.if-depth-eq0.false, (aim-element _ _ _ _ _ _ _ _ _ _ c.reached-g.ensures c.in-Element.is).0)

pub particle-returns-in-Err-Untold : goal.particle-returns-in-Err-Untold
particle-returns-in-Err-Untold t c = list-stop c.args.table.now c.args.payload.now c.args.mode c.args.name c.args.t c.args.depth c.args.wall.0 c.args.step c.loop-j.i (c.args.count - c.loop-j.j) c.loop-j.cursor (names_of c.args.path) c.loop-j.events c.loop-j.texts c.args.first c.args.count c.args.c c.args.events.now c.args.texts.now c.loop-j.invariant.3 (Err c.tell-in-Err-Untold.result) c.tell-in-Err-Untold.new.told c.element-w.new.events c.element-w.new.texts (more _ _ c.loop-j-test.true) (row-in-told c.args.table.now c.args.payload.now c.args.mode c.args.depth c.args.wall.0 c.loop-j.cursor (names_of c.args.path) c.loop-j.events c.loop-j.texts (row_for c.args.table.now c.args.name c.args.t c.loop-j.i) c.row_for-row.result c.row_for-row.ensures (ready-leaf _ _ _ _ _ _ c.requires.0) c.if-depth-eq0.false _ _ c.reached-g.ensures _ c.in-Element.is _ _ _ c.enter-e.ensures _ c.element-w.result c.element-w.new.told c.element-w.new.events c.element-w.new.texts _ (Err c.tell-in-Err-Untold.result) c.tell-in-Err-Untold.new.told c.in-In.is c.element-w.ensures (err_is (Untold c.in-Err-Untold.fault) c.in-Err-Untold.is (rw c.in-Err-Untold.is at c.in-Err-Untold.field-0-is)) c.tell-in-Err-Untold.ensures.0) (halted _)

pub particle-returns-in-Err-Told : goal.particle-returns-in-Err-Told
particle-returns-in-Err-Told t c = list-stop c.args.table.now c.args.payload.now c.args.mode c.args.name c.args.t c.args.depth c.args.wall.0 c.args.step c.loop-j.i (c.args.count - c.loop-j.j) c.loop-j.cursor (names_of c.args.path) c.loop-j.events c.loop-j.texts c.args.first c.args.count c.args.c c.args.events.now c.args.texts.now c.loop-j.invariant.3 (Err (Told c.in-Err-Told.fault c.in-Err-Told.k)) c.element-w.new.told c.element-w.new.events c.element-w.new.texts (more _ _ c.loop-j-test.true) (row_in c.args.table.now c.args.payload.now c.args.mode c.args.depth c.args.wall.0 c.loop-j.cursor (names_of c.args.path) c.loop-j.events c.loop-j.texts (row_for c.args.table.now c.args.name c.args.t c.loop-j.i) c.row_for-row.result c.row_for-row.ensures (ready-leaf _ _ _ _ _ _ c.requires.0) c.if-depth-eq0.false _ _ c.reached-g.ensures _ c.in-Element.is _ _ _ c.enter-e.ensures _ c.element-w.result c.element-w.new.told c.element-w.new.events c.element-w.new.texts (Err (Told c.in-Err-Told.fault c.in-Err-Told.k)) c.element-w.new.told c.in-In.is c.element-w.ensures (named-told _ c.args.path c.element-w.result c.element-w.new.told _ _ (err_is (Told c.in-Err-Told.fault c.in-Err-Told.k) c.in-Err-Told.is (rw c.in-Err-Told.is at c.in-Err-Told.field-0-is)))) (halted _)

pub particle-rows_in-w-requires : goal.particle-rows_in-w-requires
particle-rows_in-w-requires t c = (omega (arith, c.decreases, c.if-depth-eq0.false), (ready-row _ _ _ _ _ _ c.requires.0 c.if-depth-eq0.false, aim-known _ _ _ _ _ _ c.requires.0 _ _ _ _ _ _ _ c.reached-g.ensures c.in-Rows.is))

pub particle-returns-in_default : goal.particle-returns-in_default
particle-returns-in_default t c = list-stop c.args.table.now c.args.payload.now c.args.mode c.args.name c.args.t c.args.depth c.args.wall.0 c.args.step c.loop-j.i (c.args.count - c.loop-j.j) c.loop-j.cursor (names_of c.args.path) c.loop-j.events c.loop-j.texts c.args.first c.args.count c.args.c c.args.events.now c.args.texts.now c.loop-j.invariant.3 c.rows_in-w.result c.rows_in-w.new.told c.rows_in-w.new.events c.rows_in-w.new.texts (more _ _ c.loop-j-test.true) (row-rows c.args.table.now c.args.payload.now c.args.mode c.args.depth c.args.wall.0 c.loop-j.cursor (names_of c.args.path) c.loop-j.events c.loop-j.texts (row_for c.args.table.now c.args.name c.args.t c.loop-j.i) c.row_for-row.result c.row_for-row.ensures (ready-leaf _ _ _ _ _ _ c.requires.0) c.if-depth-eq0.false _ _ c.reached-g.ensures _ c.rows_in-w.result c.rows_in-w.new.told c.rows_in-w.new.events c.rows_in-w.new.texts c.in-Rows.is c.rows_in-w.ensures) (halts _ c.in_default.not-Ok)

pub particle-loop-j-smaller : goal.particle-loop-j-smaller
particle-loop-j-smaller t c = omega (arith, c.loop-j-test.true)

pub particle-loop-j-preserved : goal.particle-loop-j-preserved
particle-loop-j-preserved t c =
    elim c.match-g.branch [
      | particle-in-Go w ↦ rw (w.events-is, w.texts-is, w.cursor-is) (c.reached-g.auto.events ∙ c.loop-j.invariant.0, c.loop-j.invariant.1, known-rest c.args.table.now c.args.name c.args.t c.loop-j.i c.args.step (c.args.count - c.loop-j.j) c.loop-j.invariant.2 (more _ _ c.loop-j-test.true) _ (omega arith), list-again c.args.table.now c.args.payload.now c.args.mode c.args.name c.args.t c.args.depth c.args.wall.0 c.args.step c.loop-j.i (c.args.count - c.loop-j.j) c.loop-j.cursor (names_of c.args.path) c.loop-j.events c.loop-j.texts c.args.first c.args.count c.args.c c.args.events.now c.args.texts.now c.loop-j.invariant.3 (Ok w.in-Go.f) c.loop-j.told c.reached-g.new.events c.loop-j.texts (more _ _ c.loop-j-test.true) (row_next c.args.table.now c.args.payload.now c.args.mode c.args.depth c.args.wall.0 c.loop-j.cursor (names_of c.args.path) c.loop-j.events c.loop-j.texts (row_for c.args.table.now c.args.name c.args.t c.loop-j.i) c.row_for-row.result c.row_for-row.ensures (ready-leaf _ _ _ _ _ _ c.requires.0) c.if-depth-eq0.false _ _ c.reached-g.ensures c.loop-j.told _ w.in-Go.is) _ _ refl (omega arith))
      | particle-in-Element+in-Done w ↦ rw (w.events-is, w.texts-is, w.cursor-is) (w.enter-e.auto.events ∙ c.reached-g.auto.events ∙ c.loop-j.invariant.0, w.enter-e.auto.texts ∙ c.loop-j.invariant.1, known-rest c.args.table.now c.args.name c.args.t c.loop-j.i c.args.step (c.args.count - c.loop-j.j) c.loop-j.invariant.2 (more _ _ c.loop-j-test.true) _ (omega arith), list-again c.args.table.now c.args.payload.now c.args.mode c.args.name c.args.t c.args.depth c.args.wall.0 c.args.step c.loop-j.i (c.args.count - c.loop-j.j) c.loop-j.cursor (names_of c.args.path) c.loop-j.events c.loop-j.texts c.args.first c.args.count c.args.c c.args.events.now c.args.texts.now c.loop-j.invariant.3 (Ok w.in-Done.f) c.loop-j.told w.enter-e.new.events w.enter-e.new.texts (more _ _ c.loop-j-test.true) (row_done c.args.table.now c.args.payload.now c.args.mode c.args.depth c.args.wall.0 c.loop-j.cursor (names_of c.args.path) c.loop-j.events c.loop-j.texts (row_for c.args.table.now c.args.name c.args.t c.loop-j.i) c.row_for-row.result c.row_for-row.ensures (ready-leaf _ _ _ _ _ _ c.requires.0) c.if-depth-eq0.false _ _ c.reached-g.ensures _ w.in-Element.is _ _ _ w.enter-e.ensures c.loop-j.told _ w.in-Done.is) _ _ refl (omega arith))
      | particle-in-Element+in-In+in-Ok w ↦ rw (w.events-is, w.texts-is, w.cursor-is) (w.element-w.auto.events ∙ w.enter-e.auto.events ∙ c.reached-g.auto.events ∙ c.loop-j.invariant.0, w.element-w.auto.texts ∙ w.enter-e.auto.texts ∙ c.loop-j.invariant.1, known-rest c.args.table.now c.args.name c.args.t c.loop-j.i c.args.step (c.args.count - c.loop-j.j) c.loop-j.invariant.2 (more _ _ c.loop-j-test.true) _ (omega arith), list-again c.args.table.now c.args.payload.now c.args.mode c.args.name c.args.t c.args.depth c.args.wall.0 c.args.step c.loop-j.i (c.args.count - c.loop-j.j) c.loop-j.cursor (names_of c.args.path) c.loop-j.events c.loop-j.texts c.args.first c.args.count c.args.c c.args.events.now c.args.texts.now c.loop-j.invariant.3 (Ok w.in-Ok.f) w.element-w.new.told w.element-w.new.events w.element-w.new.texts (more _ _ c.loop-j-test.true) (row_in c.args.table.now c.args.payload.now c.args.mode c.args.depth c.args.wall.0 c.loop-j.cursor (names_of c.args.path) c.loop-j.events c.loop-j.texts (row_for c.args.table.now c.args.name c.args.t c.loop-j.i) c.row_for-row.result c.row_for-row.ensures (ready-leaf _ _ _ _ _ _ c.requires.0) c.if-depth-eq0.false _ _ c.reached-g.ensures _ w.in-Element.is _ _ _ w.enter-e.ensures _ w.element-w.result w.element-w.new.told w.element-w.new.events w.element-w.new.texts (Ok w.in-Ok.f) w.element-w.new.told w.in-In.is w.element-w.ensures (named-go _ c.args.path w.element-w.result w.element-w.new.told _ w.in-Ok.is)) _ _ refl (omega arith))
      | particle-in-Rows+in-Ok-w w ↦ rw (w.events-is, w.texts-is, w.cursor-is) (w.rows_in-w.auto.events ∙ c.reached-g.auto.events ∙ c.loop-j.invariant.0, w.rows_in-w.auto.texts ∙ c.loop-j.invariant.1, known-rest c.args.table.now c.args.name c.args.t c.loop-j.i c.args.step (c.args.count - c.loop-j.j) c.loop-j.invariant.2 (more _ _ c.loop-j-test.true) _ (omega arith), list-again c.args.table.now c.args.payload.now c.args.mode c.args.name c.args.t c.args.depth c.args.wall.0 c.args.step c.loop-j.i (c.args.count - c.loop-j.j) c.loop-j.cursor (names_of c.args.path) c.loop-j.events c.loop-j.texts c.args.first c.args.count c.args.c c.args.events.now c.args.texts.now c.loop-j.invariant.3 w.rows_in-w.result w.rows_in-w.new.told w.rows_in-w.new.events w.rows_in-w.new.texts (more _ _ c.loop-j-test.true) (row-rows c.args.table.now c.args.payload.now c.args.mode c.args.depth c.args.wall.0 c.loop-j.cursor (names_of c.args.path) c.loop-j.events c.loop-j.texts (row_for c.args.table.now c.args.name c.args.t c.loop-j.i) c.row_for-row.result c.row_for-row.ensures (ready-leaf _ _ _ _ _ _ c.requires.0) c.if-depth-eq0.false _ _ c.reached-g.ensures _ w.rows_in-w.result w.rows_in-w.new.told w.rows_in-w.new.events w.rows_in-w.new.texts w.in-Rows.is w.rows_in-w.ensures) _ _ w.in-Ok-w.is (omega arith))
    ]

pub particle-returns : goal.particle-returns
particle-returns t c = search (rules, list-end)

pub rows_in-particle-requires : goal.rows_in-particle-requires
rows_in-particle-requires t c = search (rules, asked-ways)
