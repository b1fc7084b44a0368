-- The measure is the rows still allowed open; the loop: what is walked from here on is what was to be walked from the first row on.
use Prim.Native.Nat.{◌≤◌, ◌+◌, ◌-◌, ◌*◌}
use mathlib.Core.Path.{◌≡◌}
use lib.ListN.{length}
use Rattle.writer_parts.specs.Walk.{events_at, texts_at, Ready}
use Rattle.writer.specs.Meaning.{list·}
use Rattle.writer_parts.proofs.Leads.{Leads}
use Rattle.writer.proofs.CycleWays.{left_r}
use Rattle.writer.proofs.cycle.+content_element_one_row_particle_rows_in.Given as goal

abbrev pub decreases-content : goal.decreases-content
decreases-content l = 8 * l.depth + 2

abbrev pub decreases-element : goal.decreases-element
decreases-element l = 8 * l.depth + 3

abbrev pub decreases-one_row : goal.decreases-one_row
decreases-one_row l = 8 * l.depth + 0

abbrev pub decreases-particle : goal.decreases-particle
decreases-particle l = 8 * l.depth + 1

abbrev pub decreases-rows_in : goal.decreases-rows_in
decreases-rows_in l = 8 * l.depth + 2

abbrev pub invariant-particle-loop-j : goal.invariant-particle-loop-j
invariant-particle-loop-j l = (length l.notes ≡ length l.initial.notes) × (l.j ≤ l.count) × (Ready l.events l.texts l.notes l.cursor) × (l.i ≡ l.first + l.step * l.j) × Leads l.events l.texts (list· l.table l.mode l.depth l.name l.t l.first l.step l.count (events_at l.events l.initial.cursor.event) (texts_at l.texts l.initial.cursor.used)) l.initial.cursor l.initial.notes (left_r l.events l.texts l.table l.mode l.depth l.name l.t l.count l.step l.j l.i l.cursor) l.cursor l.notes

abbrev pub decreases-particle-loop-j : goal.decreases-particle-loop-j
decreases-particle-loop-j l = l.count - l.j
