-- `ends`: b is free, and the gap tells whether c lies under it.
use Rattle.table.proofs.Choices.{ends-ways}
use Rattle.table.proofs.type_rows.ends.Goals as goal

pub returns-in-None : goal.returns-in-None
returns-in-None c = search ends-ways

pub returns-in-Some : goal.returns-in-Some
returns-in-Some c = search ends-ways
