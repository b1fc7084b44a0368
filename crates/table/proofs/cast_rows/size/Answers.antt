-- `size`: by the form.
use Rattle.table.proofs.Order.{plain_size, cast-size}
use Rattle.table.proofs.cast_rows.size.Goals as goal

pub returns-then-word-ne-CAST_FORM : goal.returns-then-word-ne-CAST_FORM
returns-then-word-ne-CAST_FORM c = search plain_size

pub returns : goal.returns
returns c = search cast-size
