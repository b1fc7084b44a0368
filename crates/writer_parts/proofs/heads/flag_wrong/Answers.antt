-- By the length coding.
use Rattle.writer_parts.proofs.HeadWays.{flag_wrong_ways}
use borrow.Author.Rules.{rules}
use Rattle.writer_parts.proofs.heads.flag_wrong.Goals as goal

pub returns-in-Never : goal.returns-in-Never
returns-in-Never c = search (rules, flag_wrong_ways)

pub returns-in-Optional : goal.returns-in-Optional
returns-in-Optional c = search (rules, flag_wrong_ways)

pub returns-in-Always : goal.returns-in-Always
returns-in-Always c = search (rules, flag_wrong_ways)
