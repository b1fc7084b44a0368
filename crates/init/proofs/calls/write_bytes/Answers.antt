use Rattle.init.proofs.Calling.{byte-ways}
use borrow.Author.Rules.{rules}
use Rattle.init.proofs.calls.write_bytes.Goals as goal

pub returns-then-init-ne-INIT : goal.returns-then-init-ne-INIT
returns-then-init-ne-INIT c = search (rules, byte-ways)

pub returns : goal.returns
returns c = search (rules, byte-ways)
