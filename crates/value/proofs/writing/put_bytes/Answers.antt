-- From a byte on, or from a bit of one.
use Rattle.value.proofs.LayWays.{laid, laid-slanted}
use borrow.Author.Rules.{rules}
use Rattle.value.proofs.writing.put_bytes.Goals as goal

pub returns-then-k-eq0 : goal.returns-then-k-eq0
returns-then-k-eq0 c = search (rules, laid)

pub returns : goal.returns
returns c = search (rules, laid-slanted)
