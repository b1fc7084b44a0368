-- `all_right`: after a turns the rows before a are right if the joints are small.
use Prim.Native.Nat.{◌≤◌}
use mathlib.Core.Path.{◌≡◌}
use Rattle.numbers.specs.Limit.{most_name}
use Rattle.table.specs.Words.{attribute_at, word_at}
use Rattle.table.specs.Valid.{attribute_row}
use Rattle.table.proofs.Turns.{Left}
use Rattle.table.proofs.attribute_rows.all_right.Given as goal

abbrev pub invariant-loop-a : goal.invariant-loop-a
invariant-loop-a l = l.names ≤ most_name → l.musts ≤ 1 → l.counts ≡ 0 → Left (attribute_at l.types) (attribute_row (word_at l.table) l.types) l.attributes l.a
