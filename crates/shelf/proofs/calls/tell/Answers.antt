use Rattle.std.proofs.Common.{refl, rules}
use Rattle.shelf.proofs.Calling.{told}
use Rattle.shelf.proofs.calls.tell.Goals as goal

pub returns : goal.returns
returns c = (refl, search (rules, told))
