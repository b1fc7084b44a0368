-- `row`: the four words read, the verdict on them, and the row's own place added.
use native.Mathlib.Omega.{arith}
use Rattle.table.proofs.OneRow.{particle-small, particle-row-is}
use Rattle.table.proofs.particle_rows.row.Goals as goal

pub in_row-requires : goal.in_row-requires
in_row-requires c = (omega arith, particle-small c.args.table.now _ _ _ _ _ _ c.particle_at-base.ensures c.words_from.ensures _ c.by_kind.ensures)

pub returns : goal.returns
returns c = particle-row-is c.args.table.now _ _ _ _ _ _ c.particle_at-base.ensures c.words_from.ensures _ c.by_kind.ensures _ c.in_row.ensures
