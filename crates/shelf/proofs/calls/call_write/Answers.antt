use Rattle.shelf.proofs.Calling.{write-other, write-told}
use Rattle.std.proofs.Common.{rules}
use Rattle.shelf.proofs.calls.call_write.Goals as goal

pub returns-then-area-ne-SHELF_AREA : goal.returns-then-area-ne-SHELF_AREA
returns-then-area-ne-SHELF_AREA c = search (rules, write-other)

pub returns : goal.returns
returns c = search (rules, write-told)
