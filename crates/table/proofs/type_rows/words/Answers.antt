-- `words`: the first four, then those that the content chooses.
use Rattle.table.proofs.FirstLaws.{told}
use Rattle.table.proofs.OneRow.{front-wrong, content-last}
use Rattle.table.proofs.type_rows.words.Goals as goal

pub returns-in_err-front : goal.returns-in_err-front
returns-in_err-front c = told _ _ _ c.from_residual.ensures.1 (front-wrong _ _ c.args.row _ c.front.ensures _ c.in_err-front.was)

pub returns : goal.returns
returns c = content-last _ _ c.args.row _ c.front.ensures c.in_ok-front.was _ c.by_content.ensures
