use mathlib.Core.Path.{◌∙◌}
use Rattle.reader_parts.proofs.OpeningWays.{flag_is}
use Rattle.reader_parts.proofs.opening.flag.Goals as goal

pub returns : goal.returns
returns c = c.from.ensures ∙ flag_is _
