-- The mode, and whether the table has substitutes.
use borrow.Author.Rules.{rules}
use Rattle.reader.proofs.FrontLaws.{found_is_lem}
use Rattle.reader.proofs.front.by_table.Goals as goal

pub returns : goal.returns
returns c = search (rules, found_is_lem)
