-- It is known that nothing is, or the bytes are judged.
use Rattle.reader_parts.proofs.TextWays.{judged-fine}
use Rattle.reader_parts.proofs.values.judged.Goals as goal

pub returns-then-fine : goal.returns-then-fine
returns-then-fine c = judged-fine _ _ c.requires.2 c.if-fine.true
