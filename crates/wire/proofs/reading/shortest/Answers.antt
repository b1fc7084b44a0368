use Rattle.wire.proofs.ReadWays.{way-shortest-refuse, way-shortest-yes, way-shortest-no}
use Rattle.wire.proofs.reading.shortest.Goals as goal

pub returns-in-Err : goal.returns-in-Err
returns-in-Err c c' number tells = way-shortest-refuse number _ _ c'.in-Err.is

pub returns-then-short : goal.returns-then-short
returns-then-short c c' number tells = way-shortest-yes number _ _ c'.in-Ok.is c'.if-short.true

pub returns-else-short : goal.returns-else-short
returns-else-short c c' number tells = way-shortest-no number _ _ c'.in-Ok.is c'.if-short.false _ (tells _ _ c'.from.ensures)
