use Rattle.std.proofs.Common.{rules}
use Rattle.shelf.proofs.Gathers.{stands-start, come-start, come-on, come-end, stands-end}
use Rattle.shelf.proofs.rescue.collect.Goals as goal

pub loop-i-init : goal.loop-i-init
loop-i-init c = (stands-start _, come-start _ _)

pub loop-i-preserved : goal.loop-i-preserved
loop-i-preserved c = search (rules, come-on)

pub end_stretch-requires : goal.end_stretch-requires
end_stretch-requires c = search (rules, stands-end)

pub returns : goal.returns
returns c = search (rules, come-end)
