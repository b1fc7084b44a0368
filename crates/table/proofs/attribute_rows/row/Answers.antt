-- `row`: the words read, the verdict on them, and the row's own place added.
use native.Mathlib.Omega.{arith}
use Rattle.table.proofs.OneRow.{attribute-small, attribute-row-is}
use Rattle.table.proofs.attribute_rows.row.Goals as goal

pub in_row-requires : goal.in_row-requires
in_row-requires c = (omega arith, attribute-small c.args.table.now _ _ _ _ _ _ c.attribute_at-base.ensures c.words_from.ensures c.type_at.ensures c.words_from-2.ensures _ c.words.ensures)

pub returns : goal.returns
returns c = attribute-row-is c.args.table.now _ _ _ _ _ _ c.attribute_at-base.ensures c.words_from.ensures c.type_at.ensures c.words_from-2.ensures _ c.words.ensures _ c.in_row.ensures
