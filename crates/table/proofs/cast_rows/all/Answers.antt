-- `all`: by the form.
use Rattle.table.proofs.Order.{form-ways}
use Rattle.table.proofs.cast_rows.all.Goals as goal

pub returns-then-word-ne-CAST_FORM : goal.returns-then-word-ne-CAST_FORM
returns-then-word-ne-CAST_FORM c = search form-ways

pub returns : goal.returns
returns c = search form-ways
