use Rattle.std.proofs.Common.{◌≡◌, ◌*◌, min, ◌++◌, length, drop}
use Rattle.shelf.specs.Answers.{walk_of}
use Rattle.shelf.specs.Stream.{byte_at, walk}
use Rattle.shelf.specs.Block.{cut}
use Rattle.shelf.proofs.block.cut_blocks.Given as goal

abbrev pub invariant-loop-i : goal.invariant-loop-i
invariant-loop-i l = (l.file ≡ cut (byte_at l.s) (length l.s) l.i ++ drop (512 * l.i) l.initial.file) × (walk_of l.w ≡ walk (byte_at l.s) (min (498 * l.i) (length l.s)) 0 0)
