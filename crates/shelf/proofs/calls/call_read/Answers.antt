use Rattle.shelf.proofs.Calling.{read-other, read_told_lem}
use Rattle.std.proofs.Common.{rules}
use Rattle.shelf.proofs.calls.call_read.Goals as goal

pub returns-then-area-ne-SHELF_AREA : goal.returns-then-area-ne-SHELF_AREA
returns-then-area-ne-SHELF_AREA c = search (rules, read-other)

pub returns : goal.returns
returns c = search (rules, read_told_lem)
