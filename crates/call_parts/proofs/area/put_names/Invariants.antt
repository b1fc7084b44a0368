-- `put_names`: the names passed stand as bytes, over zeros.
use Rattle.std.proofs.Common.{◌≡◌, ◌*◌, ◌++◌, take, drop}
use Rattle.buffers.specs.Bytes.{names_of}
use Rattle.call_parts.proofs.area.put_names.Given as goal

abbrev pub invariant-loop-i : goal.invariant-loop-i
invariant-loop-i l = l.s ≡ names_of (take l.i l.names) ++ drop (2 * l.i) l.initial.s
