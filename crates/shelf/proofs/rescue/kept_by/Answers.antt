use Rattle.std.proofs.Common.{refl, arith, rules}
use Rattle.shelf.proofs.Keeps.{keep-stop, keep-cut, keep-on}
use Rattle.shelf.proofs.rescue.kept_by.Goals as goal

pub loop-next-init : goal.loop-next-init
loop-next-init c = (refl, omega arith, omega arith)

pub returns-then-end-after : goal.returns-then-end-after
returns-then-end-after c = search (rules, keep-cut)

pub loop-next-preserved : goal.loop-next-preserved
loop-next-preserved c = search (rules, keep-on)

pub returns : goal.returns
returns c = search (rules, keep-stop)
