use Rattle.shelf.proofs.Ways.{judge-ways}
use Rattle.std.proofs.Common.{rules}
use Rattle.shelf.proofs.stream.soundness.Goals as goal

pub returns-then-n-eq0 : goal.returns-then-n-eq0
returns-then-n-eq0 c = search (rules, judge-ways)
