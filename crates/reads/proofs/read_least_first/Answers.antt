-- `read_least_first`: the least words lent are enough, or the reading is made again.
use native.Mathlib.Omega.{arith}
use Rattle.std.proofs.lemmas.Grind.{common_steps}
use Rattle.reads.proofs.Replies.{again-read, only-room}
use Rattle.reads.proofs.read_least_first.Goals as goal

pub returns-then-ne : goal.returns-then-ne
returns-then-ne c = c.try_room-read.ensures.roomy (λ z. let e = only-room c.try_room-read.result z in grind (arith, common_steps, e, c.ne.ensures, c.if-ne.true))

pub returns : goal.returns
returns c = let r = c.try_room-read in again-read _ _ _ _ _ _ _ _ _ _ _ _ _ r.auto.events r.auto.texts c.read_few_first.ensures
