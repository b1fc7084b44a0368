-- Refused by its count, or by what comes after it.
use Rattle.reader_parts.proofs.TextWays.{text-ways}
use borrow.Author.Rules.{rules}
use Rattle.reader_parts.proofs.values.text.Goals as goal

pub returns-in-Err : goal.returns-in-Err
returns-in-Err c = search (rules, text-ways)

pub returns-in-Ok : goal.returns-in-Ok
returns-in-Ok c = search (rules, text-ways)
