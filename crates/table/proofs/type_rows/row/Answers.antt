-- `row`: the seven words read, the verdict on them, and the row's own place added.
use native.Mathlib.Omega.{arith}
use Rattle.table.proofs.OneRow.{type-small, type-row-is}
use Rattle.table.proofs.type_rows.row.Goals as goal

pub in_row-requires : goal.in_row-requires
in_row-requires c = (omega arith, type-small c.args.table.now _ _ _ _ _ c.type_at-base.ensures c.given_from.ensures _ c.words.ensures)

pub returns : goal.returns
returns c = type-row-is c.args.table.now _ _ _ _ _ c.type_at-base.ensures c.given_from.ensures _ c.words.ensures _ c.in_row.ensures
