use Rattle.std.proofs.Common.{◌≡◌, ◌+◌, ◌++◌, take, drop}
use Rattle.shelf.specs.Stream.{byte_at}
use Rattle.shelf.specs.Block.{bytes_from}
use Rattle.shelf.proofs.block.copy_bytes.Given as goal

abbrev pub invariant-loop-i : goal.invariant-loop-i
invariant-loop-i l = l.d ≡ take l.to l.initial.d ++ bytes_from (byte_at l.s) l.from l.i ++ drop (l.to + l.i) l.initial.d
