-- Nothing is passed within a character.
use Rattle.utf8.proofs.SlantedLaws.{skipped-went, skipped-none}
use borrow.Author.Rules.{rules}
use Rattle.utf8.proofs.slanted.Slanted.skip.Goals as goal

pub returns-in-Start : goal.returns-in-Start
returns-in-Start c = search (rules, skipped-went)

pub returns-in_default : goal.returns-in_default
returns-in_default c = search (rules, skipped-none)
