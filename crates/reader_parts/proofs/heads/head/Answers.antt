-- By the mode.
use Rattle.reader_parts.proofs.HeadWays.{head-ways}
use borrow.Author.Rules.{rules}
use Rattle.reader_parts.proofs.heads.head.Goals as goal

pub returns-in-Never : goal.returns-in-Never
returns-in-Never c = search (rules, head-ways)

pub returns-in-Optional : goal.returns-in-Optional
returns-in-Optional c = search (rules, head-ways)

pub returns-in-Always : goal.returns-in-Always
returns-in-Always c = search (rules, head-ways)
