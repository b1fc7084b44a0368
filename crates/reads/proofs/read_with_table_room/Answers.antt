-- `read_with_table_room`: the table's words.
use native.Mathlib.Omega.{arith}
use lib.ListN.{length-take}
use Rattle.reads.proofs.Replies.{bytes_read}
use Rattle.call_parts.proofs.TableLaws.{loaded-whole}
use borrow.Author.Rules.{rules}
use Rattle.reads.proofs.read_with_table_room.Goals as goal

pub slice_bounds-read_with_event_room-end-2 : goal.slice_bounds-read_with_event_room-end-2
slice_bounds-read_with_event_room-end-2 c = simp length-take (omega arith)

pub returns : goal.returns
returns c = search (rules, bytes_read, loaded-whole)
