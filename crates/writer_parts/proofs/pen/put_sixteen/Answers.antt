use Rattle.writer_parts.proofs.PenWays.{sixteen_ways}
use borrow.Author.Rules.{rules}
use Rattle.writer_parts.proofs.pen.put_sixteen.Goals as goal

pub returns : goal.returns
returns c = search (rules, sixteen_ways)

pub put_eight-requires : goal.put_eight-requires
put_eight-requires c = search (rules, sixteen_ways)
