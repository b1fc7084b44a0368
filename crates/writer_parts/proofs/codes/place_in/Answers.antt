-- The loop: the first i types of the list are passed, and p is none of them.
use Rattle.writer_parts.proofs.CodeWays.{place_ways}
use borrow.Author.Rules.{rules}
use Rattle.writer_parts.proofs.codes.place_in.Goals as goal

pub loop-i-init : goal.loop-i-init
loop-i-init c = search (rules, place_ways)

pub returns-then-p-listed : goal.returns-then-p-listed
returns-then-p-listed c = search (rules, place_ways)

pub loop-i-preserved : goal.loop-i-preserved
loop-i-preserved c = search (rules, place_ways)

pub returns : goal.returns
returns c = search (rules, place_ways)
