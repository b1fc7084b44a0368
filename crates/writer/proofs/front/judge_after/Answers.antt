-- By the first thing left over, then the room.
use Rattle.writer.proofs.FrontLaws.{settled-ways}
use borrow.Author.Rules.{rules}
use Rattle.writer.proofs.front.judge_after.Goals as goal

pub returns-then-word-eq-BLANK : goal.returns-then-word-eq-BLANK
returns-then-word-eq-BLANK c = search (rules, settled-ways)

pub returns-else-word-eq-BLANK : goal.returns-else-word-eq-BLANK
returns-else-word-eq-BLANK c = search (rules, settled-ways)

pub returns-then-c-texts : goal.returns-then-c-texts
returns-then-c-texts c = search (rules, settled-ways)

pub returns-then-min-size : goal.returns-then-min-size
returns-then-min-size c = search (rules, settled-ways)

pub returns : goal.returns
returns c = search (rules, settled-ways)
