-- `write_in_room`: a list's bytes are its words.
use native.Mathlib.Omega.{arith}
use lib.ListN.{length-take}
use Rattle.writes.proofs.Lists.{list-whole}
use Rattle.call_parts.proofs.TableLaws.{loaded-whole}
use borrow.Author.Rules.{rules}
use Rattle.writes.proofs.write_in_room.Goals as goal

pub slice_bounds-write-end-2 : goal.slice_bounds-write-end-2
slice_bounds-write-end-2 c = simp length-take (omega arith)

pub returns : goal.returns
returns c = search (rules, list-whole, loaded-whole)
