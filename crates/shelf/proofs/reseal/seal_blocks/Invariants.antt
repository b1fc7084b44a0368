use Rattle.std.proofs.Common.{◌≡◌, ◌*◌, min, ◌++◌, drop}
use Rattle.shelf.specs.Answers.{walk_of}
use Rattle.shelf.specs.Stream.{walk}
use Rattle.shelf.specs.Block.{cut}
use Rattle.shelf.specs.Judge.{byte_of}
use Rattle.shelf.proofs.reseal.seal_blocks.Given as goal

abbrev pub invariant-loop-i : goal.invariant-loop-i
invariant-loop-i l = (l.file ≡ cut (byte_of l.initial.file) l.n l.i ++ drop (512 * l.i) l.initial.file) × (walk_of l.w ≡ walk (byte_of l.initial.file) (min (498 * l.i) l.n) 0 0)
