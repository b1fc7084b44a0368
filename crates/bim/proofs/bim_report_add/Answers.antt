-- `bim_report_add`: area_size, or the reading of bytes added.
use Rattle.bim.proofs.CallWays.{report-call-ways}
use borrow.Author.Rules.{rules}
use Rattle.bim.proofs.bim_report_add.Goals as goal

pub returns-then-report-ne-REPORT : goal.returns-then-report-ne-REPORT
returns-then-report-ne-REPORT c = search (rules, report-call-ways)

pub returns : goal.returns
returns c = search (rules, report-call-ways)
