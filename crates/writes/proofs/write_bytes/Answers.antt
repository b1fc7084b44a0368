-- `write_bytes`: a whole table, or a verdict.
use Rattle.call_parts.proofs.Judging.{whole-ways}
use Rattle.writes.proofs.Lists.{bytes-unwritten}
use borrow.Author.Rules.{rules}
use Rattle.writes.proofs.write_bytes.Goals as goal

pub write_whole-requires : goal.write_whole-requires
write_whole-requires c = search (rules, whole-ways)

pub returns : goal.returns
returns c = search (rules, bytes-unwritten)
