-- `every_row`: the three kinds of rows, one after the other.
use Rattle.table.specs.Words.{word_at}
use Rattle.table.proofs.FirstLaws.{told}
use Rattle.table.proofs.Order.{types-wrong, attributes-wrong, particles-last}
use Rattle.table.proofs.every_row.Goals as goal

pub returns-in_err-all : goal.returns-in_err-all
returns-in_err-all c = told _ _ _ c.from_residual.ensures.1 (types-wrong (word_at c.args.table.now) _ _ _ _ c.all.ensures _ c.in_err-all.was)

pub returns-in_err-all-2 : goal.returns-in_err-all-2
returns-in_err-all-2 c =
    told _ _ _ c.from_residual-in_err-all-2.ensures.1
    (attributes-wrong (word_at c.args.table.now) _ _ _ _ c.all.ensures c.in_ok-all.was _ c.all-2.ensures _ c.in_err-all-2.was)

pub returns : goal.returns
returns c = particles-last (word_at c.args.table.now) _ _ _ _ c.all.ensures c.in_ok-all.was _ c.all-2.ensures c.in_ok-all-2.was _ c.all-3.ensures
