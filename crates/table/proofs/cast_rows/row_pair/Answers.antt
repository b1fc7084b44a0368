-- `row_pair`: the words read, the verdict on them, and the pair's own place added.
use native.Mathlib.Omega.{arith}
use Rattle.table.proofs.CastRows.{row-pair-small, row-pair-is}
use Rattle.table.proofs.cast_rows.row_pair.Goals as goal

pub in_row-requires : goal.in_row-requires
in_row-requires c = (
  omega arith,
  row-pair-small c.args.table.now _ _ _ _ _ _ _ _ _ _ c.row_pair_at-base.ensures c.words_from.ensures
      c.particle_at.ensures c.word-kind.ensures _ c.row_words.ensures,
)

pub returns : goal.returns
returns c = row-pair-is c.args.table.now _ _ _ _ _ _ _ _ _ _ c.row_pair_at-base.ensures c.words_from.ensures
    c.particle_at.ensures c.word-kind.ensures _ c.row_words.ensures _ c.in_row.ensures
