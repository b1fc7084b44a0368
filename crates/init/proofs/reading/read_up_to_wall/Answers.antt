use Rattle.init.proofs.BackWays.{read-ways}
use borrow.Author.Rules.{rules}
use Rattle.init.proofs.reading.read_up_to_wall.Goals as goal

pub refuse-requires : goal.refuse-requires
refuse-requires c = search (rules, read-ways)

pub finish-requires : goal.finish-requires
finish-requires c = (search (rules, read-ways), search (rules, read-ways))

pub returns-in-Err : goal.returns-in-Err
returns-in-Err c = search (rules, read-ways)

pub returns-in-Ok : goal.returns-in-Ok
returns-in-Ok c = search (rules, read-ways)
