-- `all_substitutes`: after i turns the substitutes from i on are left.
use Rattle.table.specs.Words.{substitute_at, word_at}
use Rattle.table.specs.Valid.{substitute_row}
use Rattle.table.proofs.Turns.{Left}
use Rattle.table.proofs.cast_rows.all_substitutes.Given as goal

abbrev pub invariant-loop-i : goal.invariant-loop-i
invariant-loop-i l = Left (substitute_at l.casts.end l.casts.entries) (substitute_row (word_at l.table) l.types l.casts.end l.casts.entries) l.casts.swaps l.i
