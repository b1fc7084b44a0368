-- `store`: the words passed stand as bytes, and nothing else has changed.
use Prim.Native.Nat.{◌*◌}
use mathlib.Core.Path.{◌≡◌}
use mathlib.Core.List.{◌++◌}
use lib.ListN.{take, drop}
use Rattle.buffers.specs.Bytes.{bytes_of}
use Rattle.buffers.proofs.store.Given as goal

abbrev pub invariant-loop-i : goal.invariant-loop-i
invariant-loop-i l = l.s ≡ bytes_of (take l.i l.words) ++ drop (4 * l.i) l.initial.s
