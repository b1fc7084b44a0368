use Rattle.reader_parts.proofs.OpeningWays.{begin-ways}
use borrow.Author.Rules.{rules}
use Rattle.reader_parts.proofs.opening.begin.Goals as goal

pub returns-in-Err : goal.returns-in-Err
returns-in-Err c = search (rules, begin-ways)

pub returns-in-Ok : goal.returns-in-Ok
returns-in-Ok c = search (rules, begin-ways)

pub returns-in-Err-store_seldom : goal.returns-in-Err-store_seldom
returns-in-Err-store_seldom c = search (rules, begin-ways)

pub returns-in-Ok-store_seldom : goal.returns-in-Ok-store_seldom
returns-in-Ok-store_seldom c = search (rules, begin-ways)

pub returns : goal.returns
returns c = search (rules, begin-ways)
