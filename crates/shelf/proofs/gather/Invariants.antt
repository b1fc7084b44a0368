use Rattle.std.proofs.Common.{◌≡◌, ◌*◌, ◌++◌, drop}
use Rattle.shelf.specs.Block.{bytes_from}
use Rattle.shelf.specs.Judge.{byte_of}
use Rattle.shelf.proofs.gather.Given as goal

abbrev pub invariant-loop-i : goal.invariant-loop-i
invariant-loop-i l = l.records ≡ bytes_from (byte_of l.f) 0 (498 * l.i) ++ drop (498 * l.i) l.initial.records
