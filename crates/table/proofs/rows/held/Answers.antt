-- `held`: a bit of the type row's first word, of which a word has 32.
use borrow.Author.Rules.{rules}
use Rattle.table.specs.Rows.{held_of}
use Rattle.table.proofs.Parties.{held-past}
use Rattle.table.proofs.rows.held.Goals as goal

pub returns-then-party-lt32 : goal.returns-then-party-lt32
unfolding held_of
returns-then-party-lt32 c = cc

pub returns : goal.returns
returns c = search (rules, held-past)
