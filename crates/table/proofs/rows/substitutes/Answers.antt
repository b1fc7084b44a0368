-- `substitutes`: the pair of words found, and the list told by it.
use native.Mathlib.Omega.{arith}
use Rattle.table.proofs.Casts.{substitutes-listed}
use Rattle.table.proofs.rows.substitutes.Goals as goal

pub returns-clause-listed : goal.returns-clause-listed
returns-clause-listed c =
    let casts = c.casts-casts.ensures in
    substitutes-listed c.args.table.now _ _ _ casts.end casts.entries casts.swaps _ _ c.words_from.ensures _ _ _ c.word.ensures c.row_pair_at.ensures (omega arith)
