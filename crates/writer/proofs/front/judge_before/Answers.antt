-- By the table's first word at fault.
use borrow.Author.Rules.{rules}
use Rattle.writer.proofs.FrontLaws.{asked-ways}
use Rattle.writer.proofs.front.judge_before.Goals as goal

pub returns-in-Err : goal.returns-in-Err
returns-in-Err c = search (rules, asked-ways)
