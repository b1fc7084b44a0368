-- `load`: the words passed are those of the bytes, and nothing else has changed; eight a round, then one.
use Prim.Native.Nat.{◌*◌}
use mathlib.Core.Path.{◌≡◌}
use mathlib.Core.List.{◌++◌}
use lib.ListN.{take, drop}
use Rattle.buffers.specs.Bytes.{words_of}
use Rattle.buffers.proofs.load.Given as goal

abbrev pub invariant-loop-round : goal.invariant-loop-round
invariant-loop-round l = l.words ≡ take (8 * l.round) (words_of l.s) ++ drop (8 * l.round) l.initial.words

abbrev pub invariant-loop-i : goal.invariant-loop-i
invariant-loop-i l = l.words ≡ take l.i (words_of l.s) ++ drop l.i l.fn.words
