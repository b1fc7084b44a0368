-- A word stored.
use Rattle.wire.proofs.Store.{whole-put}
use borrow.Author.Rules.{rules}
use Rattle.wire.proofs.writing.put_whole.Goals as goal

pub returns : goal.returns
returns c = search (rules, whole-put)
