-- The loop: the first i bytes are drawn.
use Rattle.writer_parts.proofs.PenWays.{text_pen_ways, last-spare, text-last}
use borrow.Author.Rules.{rules}
use native.Mathlib.Omega.{arith}
use Rattle.writer_parts.proofs.pen.put_text.Goals as goal

pub loop-i-init : goal.loop-i-init
loop-i-init c = search (rules, text_pen_ways)

pub loop-i-preserved : goal.loop-i-preserved
loop-i-preserved c = search (rules, text_pen_ways)

pub returns : goal.returns
returns c = let l = c.loop-i in text-last _ _ _ c.requires _ _ _ l.invariant.0 l.invariant.1 _ (omega arith) (omega arith) _ _ c.put_rest.ensures

pub put_sixteen-q-requires : goal.put_sixteen-q-requires
put_sixteen-q-requires c = (search (rules, text_pen_ways), omega arith)

pub put_rest-requires : goal.put_rest-requires
put_rest-requires c = let l = c.loop-i in last-spare _ _ _ c.requires _ _ _ l.invariant.0 l.invariant.1 _ (omega arith) (omega arith)
