-- Code by code.
use borrow.Author.Rules.{rules}
use Rattle.value.proofs.WriteWays.{inner_size_ways}
use Rattle.value.proofs.writing.inner_size.Goals as goal

pub returns-else-v-n : goal.returns-else-v-n
returns-else-v-n c = search (rules, inner_size_ways)
