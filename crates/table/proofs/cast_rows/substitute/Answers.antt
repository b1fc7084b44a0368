-- `substitute`: two words, and their tests.
use Rattle.table.proofs.CastRows.{substitute-ways}
use Rattle.table.proofs.cast_rows.substitute.Goals as goal

pub returns-then-name-gt-MOST_NAME : goal.returns-then-name-gt-MOST_NAME
returns-then-name-gt-MOST_NAME c = search substitute-ways

pub returns-then-types-t : goal.returns-then-types-t
returns-then-types-t c = search substitute-ways

pub returns : goal.returns
returns c = search substitute-ways
