-- An element is next; or the rows that the row holds, narrowed.
use Rattle.reader.proofs.Asked.{row-holds}
use Rattle.reader.proofs.AimWays.{rows_lie, reach-element, reach-refuse, reach-rows}
use Rattle.reader.proofs.groups.reached.Goals as goal

pub rows_of-requires : goal.rows_of-requires
rows_of-requires c = (c.requires.1, (row-holds _ c.requires.0 c.args.row c.requires.2 c.in_default.not-Element))

pub narrowed-requires : goal.narrowed-requires
narrowed-requires c = (c.requires.0, rows_lie c.args.table.now _ c.args.depth _ _ _ c.args.row (row-holds _ c.requires.0 c.args.row c.requires.2 c.in_default.not-Element) _ _ c.rows_of.ensures _ c.in-Ok.is c.requires.2)

pub returns-in-Element : goal.returns-in-Element
returns-in-Element c = reach-element _ _ _ _ _ _ c.args.row _ _ _ c.in-Element.is c.requires.2

pub returns-in-Err : goal.returns-in-Err
returns-in-Err c = reach-refuse _ _ _ _ _ _ c.args.row (row-holds _ c.requires.0 c.args.row c.requires.2 c.in_default.not-Element) _ _ c.rows_of.ensures _ c.in-Err.is

pub returns-in-Ok : goal.returns-in-Ok
returns-in-Ok c = reach-rows _ _ _ _ _ _ c.args.row (row-holds _ c.requires.0 c.args.row c.requires.2 c.in_default.not-Element) _ _ c.rows_of.ensures _ c.in-Ok.is c.requires.2 _ c.narrowed.ensures
