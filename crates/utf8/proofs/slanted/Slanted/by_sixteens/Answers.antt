-- The octets passed are printable: the 16 from `at` on are, and those before `at` were passed.
use Rattle.utf8.proofs.SlantedLaws.{passed_none, passed-sixteen}
use borrow.Author.Rules.{rules}
use Rattle.utf8.proofs.slanted.Slanted.by_sixteens.Goals as goal

pub returns-then-self-from-lt16 : goal.returns-then-self-from-lt16
returns-then-self-from-lt16 c = search (rules, passed_none)

pub loop-i-init : goal.loop-i-init
loop-i-init c = search (rules, passed_none)

pub loop-i-preserved : goal.loop-i-preserved
loop-i-preserved c = search (rules, passed-sixteen)
