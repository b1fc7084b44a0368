-- The loop: what is walked from here on is what was to be walked from the first slot on.
use mathlib.Core.Path.{◌≡◌}
use lib.ListN.{length}
use Rattle.writer_parts.specs.Walk.{events_at, texts_at, Ready}
use Rattle.writer_parts.specs.Parts.{values·}
use Rattle.writer_parts.proofs.Leads.{Leads}
use Rattle.writer_parts.proofs.AttributeWays.{left}
use Rattle.writer_parts.proofs.attributes.before_rows.Given as goal

abbrev pub invariant-loop-i : goal.invariant-loop-i
invariant-loop-i l = (length l.notes ≡ length l.initial.notes) × (Ready l.events l.texts l.notes l.cursor) × Leads l.events l.texts (values· l.table l.t (events_at l.events l.initial.cursor.event) (texts_at l.texts l.initial.cursor.used)) l.initial.cursor l.initial.notes (left l.table l.t l.first l.n l.events l.texts l.i l.cursor) l.cursor l.notes
