-- `try_room`: as much of the room as the host lends.
use native.Mathlib.Omega.{arith}
use lib.ListN.{length-take}
use Rattle.reads.proofs.Replies.{room-read}
use borrow.Author.Rules.{rules}
use Rattle.reads.proofs.try_room.Goals as goal

pub slice_bounds-read_into-end-2 : goal.slice_bounds-read_into-end-2
slice_bounds-read_into-end-2 c = simp length-take (omega arith)

pub read_into-requires : goal.read_into-requires
read_into-requires c = record { fits = simp length-take (omega arith); told = search rules }

pub returns : goal.returns
returns c = room-read _ _ _ _ _ _ _ _ (simp length-take (omega arith)) c.read_into.ensures
