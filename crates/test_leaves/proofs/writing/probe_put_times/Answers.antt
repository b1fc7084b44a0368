-- A count as the writer spells it is by the count's code.
use Rattle.test_leaves.proofs.Spellings.{spelt-as}
use borrow.Author.Rules.{rules}
use Rattle.test_leaves.proofs.writing.probe_put_times.Goals as goal

pub put_spelt-requires : goal.put_spelt-requires
put_spelt-requires c = search (rules, spelt-as)
