-- `every_word`: the rows, then what stands behind them.
use Rattle.table.specs.Words.{word_at}
use Rattle.table.proofs.FirstLaws.{told}
use Rattle.table.proofs.Order.{rows-wrong, form-last}
use Rattle.table.proofs.every_word.Goals as goal

pub returns-in_err-every_row : goal.returns-in_err-every_row
returns-in_err-every_row c = told _ _ _ c.from_residual.ensures.1 (rows-wrong (word_at c.args.table.now) _ _ _ _ c.every_row.ensures _ c.in_err-every_row.was)

pub returns : goal.returns
returns c = form-last (word_at c.args.table.now) _ _ _ _ c.every_row.ensures c.in_ok-every_row.was _ c.all.ensures
