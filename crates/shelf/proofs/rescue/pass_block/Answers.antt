use Rattle.shelf.proofs.Gathers.{passed-bad, passed-good, stands-first, stands_good}
use Rattle.std.proofs.Common.{rules}
use Rattle.shelf.proofs.rescue.pass_block.Goals as goal

pub returns-in-Err : goal.returns-in-Err
returns-in-Err c = search (rules, passed-bad, stands-first)

pub returns-in-Ok : goal.returns-in-Ok
returns-in-Ok c = search (rules, passed-good, stands_good)
