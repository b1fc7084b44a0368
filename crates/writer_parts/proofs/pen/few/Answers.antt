-- The loop: the first i bytes are the number x.
use Prim.Native.Nat.{◌<◌}
use Rattle.writer_parts.proofs.PenWays.{few_ways, few-small, few-turn}
use borrow.Author.Rules.{rules}
use Rattle.writer_parts.proofs.pen.few.Goals as goal

pub loop-b-init : goal.loop-b-init
loop-b-init c = search (rules, few_ways)

pub loop-b-preserved : goal.loop-b-preserved
loop-b-preserved c =
    let l = c.loop-b in
    let w : c.from.result < 256 = rw c.from.ensures (c.type_inv.text l.b-index).fits in
    (few-small _ _ _ l.invariant.0 w, few-turn _ _ _ _ l.invariant.1 c.from.ensures w c.loop-b-test.true)

pub returns : goal.returns
returns c = search (rules, few_ways)
