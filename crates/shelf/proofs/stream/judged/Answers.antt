use Rattle.std.proofs.Common.{arith, rules}
use Rattle.shelf.proofs.Ways.{over_below, some-cut, judge-ways}
use Rattle.shelf.proofs.stream.judged.Goals as goal

pub overflow_add-result : goal.overflow_add-result
overflow_add-result c = omega (arith, over_below _ _ c.requires c.in-Err.is)

pub returns-then-reached-n : goal.returns-then-reached-n
returns-then-reached-n c = search (rules, judge-ways)

pub overflow_sub-result : goal.overflow_sub-result
overflow_sub-result c = omega (arith, some-cut _ _ c.requires c.in-Ok.is c.if-reached-n.false)

pub returns-in-Err : goal.returns-in-Err
returns-in-Err c = search (rules, judge-ways)

pub returns-else-reached-n : goal.returns-else-reached-n
returns-else-reached-n c = search (rules, judge-ways)
