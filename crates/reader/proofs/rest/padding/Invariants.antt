-- `rest::padding` meets its contract. The invariant: what is left from here on says what is left after the root.
use Prim.Native.Nat.{◌-◌, ◌*◌, ◌≤◌}
use mathlib.Core.Path.{◌≡◌}
use lib.ListN.{length}
use Rattle.reader.proofs.RestLaws.{Left}
use Rattle.reader.proofs.rest.padding.Given as goal

abbrev pub invariant-loop-p : goal.invariant-loop-p
invariant-loop-p l = (l.p ≤ l.wall) × (l.wall ≡ 8 * length l.payload) × (8 * length l.payload ≤ 65536) × Left l.payload l.from l.wall l.p

abbrev pub decreases-loop-p : goal.decreases-loop-p
decreases-loop-p l = l.wall - l.p
