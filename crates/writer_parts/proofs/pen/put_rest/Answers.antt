-- The loop: the first i bytes are drawn.
use Rattle.writer_parts.proofs.PenWays.{rest_ways, text-few, text-spare}
use borrow.Author.Rules.{rules}
use native.Mathlib.Omega.{arith}
use Rattle.writer_parts.proofs.pen.put_rest.Goals as goal

pub loop-i-init : goal.loop-i-init
loop-i-init c = search (rules, rest_ways)

pub loop-i-preserved : goal.loop-i-preserved
loop-i-preserved c = search (rules, rest_ways)

pub returns-then-left-eq0 : goal.returns-then-left-eq0
returns-then-left-eq0 c = search (rules, rest_ways)

pub returns : goal.returns
returns c =
    let l = c.loop-i in
    text-few _ _ _ c.requires _ _ _ l.invariant.0 l.invariant.1 _ (omega arith) (omega arith) _ _ (omega arith) c.few-x.ensures _ _ c.put_code.ensures

pub put_eight-q-requires : goal.put_eight-q-requires
put_eight-q-requires c = search (rules, rest_ways)

pub put_code-requires : goal.put_code-requires
put_code-requires c = (text-spare _ _ _ c.requires _ _ _ c.loop-i.invariant.0 c.loop-i.invariant.1 _ (omega arith), omega arith)
