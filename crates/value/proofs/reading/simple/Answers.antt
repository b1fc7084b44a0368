-- A number by its code.
use Rattle.value.proofs.ReadWays.{way-simple-read}
use Rattle.value.proofs.reading.simple.Goals as goal

pub returns-in_ok-word-in-Number : goal.returns-in_ok-word-in-Number
returns-in_ok-word-in-Number c = way-simple-read _ _ _ _ _ c.in-Number.is _ c.code.ensures _ _ c.in_ok-word-in-Number.was _ c.word.ensures
