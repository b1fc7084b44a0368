use Rattle.std.proofs.Common.{◌≡◌, arith, rules}
use Rattle.shelf.proofs.Loops.{summed-more}
use Rattle.shelf.proofs.Lanes.{lanes-none, lanes-more, lanes-sum}
use Rattle.shelf.proofs.sums.sum_words.Goals as goal

pub loop-i-init : goal.loop-i-init
loop-i-init c = search (rules, lanes-none)

pub loop-i-preserved : goal.loop-i-preserved
loop-i-preserved c = search (rules, lanes-more)

pub loop-i-2-init : goal.loop-i-2-init
loop-i-2-init c = let e : c.loop-i.i ≡ 120 = omega arith in rw e at (lanes-sum c.loop-i.invariant (omega arith) c.sum_lanes-sum.ensures)

pub loop-i-2-preserved : goal.loop-i-2-preserved
loop-i-2-preserved c = search (rules, summed-more)

pub returns : goal.returns
returns c = let e : c.loop-i-2.i ≡ 127 = omega arith in rw e at c.loop-i-2.invariant
