use Rattle.std.proofs.Common.{rules}
use Rattle.shelf.proofs.Loops.{follow-stop, follow-over, follow-on}
use Rattle.shelf.proofs.stream.walk.Goals as goal

pub returns-then-n-gt-MOST_PAYLOAD : goal.returns-then-n-gt-MOST_PAYLOAD
returns-then-n-gt-MOST_PAYLOAD g c = search (rules, follow-over)

pub loop-place-preserved : goal.loop-place-preserved
loop-place-preserved g c = search (rules, follow-on)

pub returns : goal.returns
returns g c = search (rules, follow-stop)
