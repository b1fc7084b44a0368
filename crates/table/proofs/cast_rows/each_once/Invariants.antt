-- `each_once`: after i turns the type and i entries have the stamp, and no other number; none of them stands twice.
use Prim.Native.Nat.{◌≤◌}
use mathlib.Core.Path.{◌≡◌}
use mathlib.Core.List.{◌∷◌}
use mathlib.Core.Bool.{true}
use Rattle.table.specs.Words.{word_at}
use Rattle.table.specs.Valid.{once, words_from}
use Rattle.table.proofs.Once.{Tells}
use Rattle.table.proofs.cast_rows.each_once.Given as goal

abbrev pub invariant-loop-i : goal.invariant-loop-i
invariant-loop-i l = (l.i ≤ l.count) × (once (l.t ∷ words_from (word_at l.table) l.start l.i) ≡ true) × Tells l.stamp (l.t ∷ words_from (word_at l.table) l.start l.i) l.stamps
