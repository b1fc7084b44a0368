-- `front::mode_of` finds what `mode_of` says: each refusal by its way.
use borrow.Author.Rules.{rules}
use Rattle.reader.proofs.FrontLaws.{front_ways}
use Rattle.reader.proofs.front.mode_of.Goals as goal

pub returns-then-n-eq0 : goal.returns-then-n-eq0
returns-then-n-eq0 c = search (rules, front_ways)

pub returns-then-n-gt-MOST_PAYLOAD : goal.returns-then-n-gt-MOST_PAYLOAD
returns-then-n-gt-MOST_PAYLOAD c = search (rules, front_ways)

pub returns-in_default : goal.returns-in_default
returns-in_default c = search (rules, front_ways)

pub returns-in_default-2 : goal.returns-in_default-2
returns-in_default-2 c = search (rules, front_ways)
