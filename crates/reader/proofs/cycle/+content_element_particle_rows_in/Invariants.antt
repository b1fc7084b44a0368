-- The cycle of the reader, whole: each function walks as its meaning says. Depth falls at each row; within a row the calls go element, content,
use Prim.Native.Nat.{◌+◌, ◌-◌, ◌*◌}
use mathlib.Core.Path.{◌≡◌}
use lib.ListN.{length}
use Rattle.reader_parts.specs.Paths.{names_of}
use Rattle.reader.specs.Meaning.{KnownRows}
use Rattle.reader.proofs.Ways.{Left}
use Rattle.reader.proofs.cycle.+content_element_particle_rows_in.Given as goal

abbrev pub decreases-content : goal.decreases-content
decreases-content l = 4 * l.depth + 2

abbrev pub decreases-element : goal.decreases-element
decreases-element l = 4 * l.depth + 3

abbrev pub decreases-particle : goal.decreases-particle
decreases-particle l = 4 * l.depth + 0

abbrev pub decreases-rows_in : goal.decreases-rows_in
decreases-rows_in l = 4 * l.depth + 1

abbrev pub invariant-particle-loop-j : goal.invariant-particle-loop-j
invariant-particle-loop-j l = (length l.events ≡ length l.initial.events)
    × (length l.texts ≡ length l.initial.texts)
    × KnownRows l.table l.name l.t l.i l.step (l.count - l.j)
    × Left l.table l.payload l.mode l.name l.t l.depth l.wall.0 l.step l.i (l.count - l.j) l.cursor (names_of l.path) l.events l.texts l.first l.count l.initial.cursor l.initial.events l.initial.texts

abbrev pub decreases-particle-loop-j : goal.decreases-particle-loop-j
decreases-particle-loop-j l = l.count - l.j
