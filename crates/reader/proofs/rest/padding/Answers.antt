-- A 1 is left.
use borrow.Author.Rules.{rules}
use Rattle.reader.proofs.RestLaws.{rest_ways}
use Rattle.reader.proofs.rest.padding.Goals as goal

pub returns-then-bit-gt0 : goal.returns-then-bit-gt0
returns-then-bit-gt0 c = search (rules, rest_ways)
