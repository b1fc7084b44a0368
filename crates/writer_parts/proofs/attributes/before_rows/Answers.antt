-- The loop: what is walked from here on is what was to be walked from the first slot on.
use Rattle.writer_parts.proofs.AttributeWays.{before_rows_ways, before-rows-again}
use native.Mathlib.Omega.{arith}
use borrow.Author.Rules.{rules}
use Rattle.writer_parts.proofs.attributes.before_rows.Goals as goal

pub loop-i-init : goal.loop-i-init
loop-i-init c = search (rules, before_rows_ways)

pub loop-i-preserved : goal.loop-i-preserved
loop-i-preserved c = (search (rules, before_rows_ways), search (rules, before_rows_ways), before-rows-again _ _ _ _ _ _ _ _ _ _ _ _ c.loop-i.invariant.2 (omega arith) _ c.slot_at-z.ensures _ _ c.part-r.ensures _ c.in-Ok.is)

pub returns : goal.returns
returns c = search (rules, before_rows_ways)

pub span-s-requires : goal.span-s-requires
span-s-requires c = search (rules, before_rows_ways)

pub overflow_add-i-end : goal.overflow_add-i-end
overflow_add-i-end c = search (rules, before_rows_ways)

pub slot_at-z-requires : goal.slot_at-z-requires
slot_at-z-requires c = search (rules, before_rows_ways)
