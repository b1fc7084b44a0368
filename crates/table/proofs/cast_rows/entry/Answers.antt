-- `entry`: one word, and its test.
use Rattle.table.proofs.CastRows.{entry-ways}
use Rattle.table.proofs.cast_rows.entry.Goals as goal

pub returns-then-types-t : goal.returns-then-types-t
returns-then-types-t c = search entry-ways

pub returns : goal.returns
returns c = search entry-ways
