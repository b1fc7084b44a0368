-- `all_entries`: after i turns the derived entries from i on are left.
use Rattle.table.specs.Words.{derived_at, word_at}
use Rattle.table.specs.Valid.{derived_row}
use Rattle.table.proofs.Turns.{Left}
use Rattle.table.proofs.cast_rows.all_entries.Given as goal

abbrev pub invariant-loop-i : goal.invariant-loop-i
invariant-loop-i l = Left (derived_at l.casts.end) (derived_row (word_at l.table) l.types l.casts.end) l.casts.entries l.i
