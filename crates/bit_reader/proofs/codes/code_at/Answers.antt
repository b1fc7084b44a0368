-- Refused where it stands, or taken.
use borrow.Author.Rules.{rules}
use Rattle.bit_reader.proofs.Ways.{code_ways}
use Rattle.bit_reader.proofs.codes.code_at.Goals as goal

pub returns-in-Err : goal.returns-in-Err
returns-in-Err c = search (rules, code_ways)

pub returns-in-Ok : goal.returns-in-Ok
returns-in-Ok c = search (rules, code_ways)
