-- `derived`: the pair of words found, and the list told by it.
use native.Mathlib.Omega.{arith}
use Prim.Native.Nat.{◌+◌}
use Rattle.table.proofs.Casts.{derived-listed}
use Rattle.table.proofs.rows.derived.Goals as goal

pub returns : goal.returns
returns c =
    let casts = c.casts-casts.ensures in (
      derived-listed c.args.table.now _ _ _ casts.end casts.entries casts.swaps _ _ c.words_from.ensures _ _ c.pair_at.ensures c.entry_at.ensures,
      omega (arith, c.words_from.ensures.each 0 (omega arith), c.type_inv.table (c.pair_at.result + 0)),
    )
