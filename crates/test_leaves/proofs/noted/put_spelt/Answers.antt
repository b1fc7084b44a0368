-- The writer's way: one event walked, and what it noted put down.
use Rattle.test_leaves.proofs.Room.{one-bits, one-noted}
use borrow.Author.Rules.{rules}
use Rattle.test_leaves.proofs.noted.put_spelt.Goals as goal

pub put_noted-requires : goal.put_noted-requires
put_noted-requires c = search (rules, one-bits, one-noted)
