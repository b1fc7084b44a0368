-- `read_in_room`: the room suffices.
use borrow.Author.Rules.{rules}
use Rattle.reads.proofs.read_in_room.Goals as goal

pub returns : goal.returns
returns c = c.try_room.ensures.enough (search rules)
