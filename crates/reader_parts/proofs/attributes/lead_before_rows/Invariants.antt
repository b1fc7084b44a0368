-- What is left of the parts, at each turn, is what was asked for.
use Prim.Native.Nat.{◌-◌, ◌≤◌}
use mathlib.Core.Path.{◌≡◌}
use lib.ListN.{length}
use Rattle.wire.specs.Bits.{bit_at}
use Rattle.reader_parts.proofs.AttributeWays.{UpTo, Left}
use Rattle.reader_parts.specs.Parts.{before_rows}
use Rattle.reader_parts.proofs.attributes.lead_before_rows.Given as goal

abbrev pub invariant-loop-next : goal.invariant-loop-next
invariant-loop-next l = (length l.events ≡ length l.initial.events)
    × (length l.texts ≡ length l.initial.texts)
    × (l.row ≤ l.end)
    × Left (bit_at l.payload) l.wall.0 (before_rows l.table l.t) (UpTo l.table l.t l.end l.row) l.initial.cursor l.initial.events l.initial.texts l.cursor l.events l.texts

abbrev pub decreases-loop-next : goal.decreases-loop-next
decreases-loop-next l = l.end - l.row
