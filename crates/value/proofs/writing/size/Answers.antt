-- Code by code.
use borrow.Author.Rules.{rules}
use Rattle.value.proofs.WriteWays.{size_ways}
use Rattle.value.proofs.writing.size.Goals as goal

pub returns-in-Signed : goal.returns-in-Signed
returns-in-Signed c = search (rules, size_ways)
