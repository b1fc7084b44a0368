-- Item by item: the state leads to the answer, and each item brings it nearer to the end.
use mathlib.Core.Path.{refl}
use native.Mathlib.Omega.{arith}
use Rattle.init.specs.Phases.{reach, ends}
use Rattle.init.proofs.ReadWays.{start-reads, reads-done, turn-stops, turn-goes}
use borrow.Author.Rules.{rules}
use Rattle.init.proofs.reading.read_items.Goals as goal

pub loop-lent-init : goal.loop-lent-init
unfolding reach
loop-lent-init c = (omega arith, record { init = refl; codecs = refl; room = refl }, start-reads _ _ _ _)

pub read_item-requires : goal.read_item-requires
unfolding ends
read_item-requires c = record { few = search rules; lies = search rules; goes = search rules }

pub returns-in-Err-clause-ran : goal.returns-in-Err-clause-ran
returns-in-Err-clause-ran c = let v = c.loop-lent in turn-stops _ _ _ _ v.st c.read_item.result _ _ (c.read_item.ensures.turned _ _ v.invariant.2) _ (search rules) v.invariant.2.within

pub loop-lent-smaller : goal.loop-lent-smaller
loop-lent-smaller c = let v = c.loop-lent in (turn-goes _ _ _ _ v.st c.read_item.result _ _ (c.read_item.ensures.turned _ _ v.invariant.2) c.in-Ok.then (search rules)).falls

pub loop-lent-preserved : goal.loop-lent-preserved
loop-lent-preserved c = let v = c.loop-lent in let g = turn-goes _ _ _ _ v.st c.read_item.result _ _ (c.read_item.ensures.turned _ _ v.invariant.2) c.in-Ok.then (search rules) in (g.lies, search rules, g.reads)

pub returns-clause-ran : goal.returns-clause-ran
unfolding ends
returns-clause-ran c = let v = c.loop-lent in reads-done _ _ _ _ v.st _ _ (search rules) v.invariant.2
