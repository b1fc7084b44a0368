-- `every`: each case lies past the one before, so what is left of the input falls.
use Rattle.std.proofs.Common.{◌-◌, length}
use Rattle.test_cases.proofs.every.Given as goal

abbrev pub decreases-loop-at : goal.decreases-loop-at
decreases-loop-at g l = length l.s - l.at
