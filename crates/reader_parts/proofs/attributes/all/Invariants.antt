-- What is left of the attributes, at each turn, is what was asked for.
use mathlib.Core.Path.{◌≡◌}
use lib.ListN.{length}
use Rattle.wire.specs.Bits.{bit_at}
use Rattle.reader_parts.proofs.AttributeWays.{Left}
use Rattle.reader_parts.proofs.OneWays.{Rest, All, end_of}
use Rattle.reader_parts.proofs.attributes.all.Given as goal

abbrev pub invariant-loop-row : goal.invariant-loop-row
invariant-loop-row l = (length l.events ≡ length l.initial.events)
    × (length l.texts ≡ length l.initial.texts)
    × Left (bit_at l.payload) l.wall.0 (All l.table l.t) (Rest l.table (end_of l.table l.t) l.row) l.initial.cursor l.initial.events l.initial.texts l.cursor l.events l.texts
