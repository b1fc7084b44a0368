-- By length coding.
use Rattle.writer.proofs.InkLaws.{lengths-byte-ways}
use borrow.Author.Rules.{rules}
use Rattle.writer.proofs.ink.lengths_byte.Goals as goal

pub returns-in-Never : goal.returns-in-Never
returns-in-Never c = search (rules, lengths-byte-ways)

pub returns-in-Optional : goal.returns-in-Optional
returns-in-Optional c = search (rules, lengths-byte-ways)

pub returns-in-Always : goal.returns-in-Always
returns-in-Always c = search (rules, lengths-byte-ways)
