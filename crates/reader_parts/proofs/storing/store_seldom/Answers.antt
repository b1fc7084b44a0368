-- No room, or four words laid, the first of them last.
use Rattle.reader_parts.proofs.StoreWays.{seldom-ways}
use lib.ListN.{length-set}
use native.Mathlib.Omega.{arith}
use borrow.Author.Rules.{rules}
use Rattle.reader_parts.proofs.storing.store_seldom.Goals as goal

pub returns-then-room-count : goal.returns-then-room-count
returns-then-room-count c = search (rules, seldom-ways)

pub bounds-events-i-2 : goal.bounds-events-i-2
bounds-events-i-2 c = simp length-set (omega arith)

pub bounds-events-i-3 : goal.bounds-events-i-3
bounds-events-i-3 c = simp length-set (omega arith)

pub bounds-events-i-4 : goal.bounds-events-i-4
bounds-events-i-4 c = simp length-set (omega arith)

pub returns : goal.returns
returns c = search (rules, seldom-ways)
