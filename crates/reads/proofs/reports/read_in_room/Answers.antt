-- `read_in_room`: by the table's words that are lent.
use native.Mathlib.Omega.{arith}
use lib.ListN.{length-take}
use Rattle.reads.proofs.ReportLaws.{words-read}
use borrow.Author.Rules.{rules}
use Rattle.reads.proofs.reports.read_in_room.Goals as goal

pub slice_bounds-read-end-2 : goal.slice_bounds-read-end-2
slice_bounds-read-end-2 c = simp length-take (omega arith)

pub returns : goal.returns
returns c = search (rules, words-read)
