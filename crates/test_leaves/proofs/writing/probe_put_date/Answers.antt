-- The same way for a date.
use Rattle.test_leaves.proofs.Room.{one-bits, one-noted}
use borrow.Author.Rules.{rules}
use Rattle.test_leaves.proofs.writing.probe_put_date.Goals as goal

pub put_noted-requires : goal.put_noted-requires
put_noted-requires c = search (rules, one-bits, one-noted)
