use Rattle.init.proofs.WriteWays.{both}
use borrow.Author.Rules.{rules}
use Rattle.init.proofs.page.Page.put_item.Goals as goal

pub returns : goal.returns
returns c = search (rules, both)
