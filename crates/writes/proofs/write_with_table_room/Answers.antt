-- `write_with_table_room`: the table's words.
use native.Mathlib.Omega.{arith}
use lib.ListN.{length-take}
use Rattle.writes.proofs.Lists.{bytes-written}
use Rattle.call_parts.proofs.TableLaws.{loaded-whole}
use borrow.Author.Rules.{rules}
use Rattle.writes.proofs.write_with_table_room.Goals as goal

pub slice_bounds-write_with_event_room-end-2 : goal.slice_bounds-write_with_event_room-end-2
slice_bounds-write_with_event_room-end-2 c = simp length-take (omega arith)

pub returns : goal.returns
returns c = search (rules, bytes-written, loaded-whole)
