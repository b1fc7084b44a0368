-- `read_bytes`: a whole table, or a verdict.
use Rattle.call_parts.proofs.Judging.{whole-ways}
use Rattle.reads.proofs.Replies.{bytes-unread}
use borrow.Author.Rules.{rules}
use Rattle.reads.proofs.read_bytes.Goals as goal

pub read_whole-requires : goal.read_whole-requires
read_whole-requires c = search (rules, whole-ways)

pub returns : goal.returns
returns c = search (rules, bytes-unread)
