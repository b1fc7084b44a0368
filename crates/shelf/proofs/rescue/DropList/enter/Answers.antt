use Rattle.shelf.proofs.Lists.{entered-counted}
use Rattle.std.proofs.Common.{rules}
use Rattle.shelf.proofs.rescue.DropList.enter.Goals as goal

pub returns-then-entries-self-clause-listed : goal.returns-then-entries-self-clause-listed
returns-then-entries-self-clause-listed c = search (rules, entered-counted)
