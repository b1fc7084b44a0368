-- Five bits a group.
use Rattle.wire.proofs.WriteWays.{size5-is}
use borrow.Author.Rules.{rules}
use Rattle.wire.proofs.writing.size5.Goals as goal

pub returns : goal.returns
returns c = search (rules, size5-is)
