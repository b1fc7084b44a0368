-- What is left of the parts, at each turn, is what was asked for.
use Rattle.reader_parts.proofs.AttributeWays.{left-all, left-more, left-none, left-stop, inside-ways, row_fits}
use Prim.Native.Nat.{◌+◌, ◌<◌}
use mathlib.Core.Path.{refl}
use native.Mathlib.Omega.{arith}
use borrow.Author.Rules.{rules}
use Rattle.reader_parts.proofs.attributes.lead_before_rows.Goals as goal

pub span-rows-requires : goal.span-rows-requires
span-rows-requires c = search (rules, inside-ways)

pub overflow_add-end : goal.overflow_add-end
overflow_add-end c = search (rules, inside-ways)

pub loop-next-init : goal.loop-next-init
loop-next-init c = (refl, refl, omega arith, search (rules, left-all))

pub part-read-requires : goal.part-read-requires
part-read-requires c = search (rules, inside-ways)

pub returns-in_default : goal.returns-in_default
returns-in_default c = rw c.in_default.is (left-stop _ _ _ _ _ _ _ _ _ _ _ _ _ c.loop-next.invariant.3 c.loop-next.invariant.2 _ _ _ c.part-read.ensures _ c.in_default.is)

pub returns-then-not-more : goal.returns-then-not-more
returns-then-not-more c =
    let left = left-more _ _ _ _ _ _ _ _ _ _ _ _ _ c.loop-next.invariant.3 c.loop-next.invariant.2 _ _ _ c.part-read.ensures _ c.in-Ok.is in
    left-none _ _ _ _ _ _ _ _ _ _ _ _ _ left (omega arith)

pub overflow_add-row : goal.overflow_add-row
overflow_add-row c = let k : c.loop-next.row + 1 < 4294967296 = row_fits _ c.requires.1 _ c.requires.2 _ c.span-rows.ensures _ c.loop-next.invariant.2 in search rules

pub loop-next-preserved : goal.loop-next-preserved
loop-next-preserved c = (search rules, search rules, omega arith, left-more _ _ _ _ _ _ _ _ _ _ _ _ _ c.loop-next.invariant.3 c.loop-next.invariant.2 _ _ _ c.part-read.ensures _ c.in-Ok.is)
