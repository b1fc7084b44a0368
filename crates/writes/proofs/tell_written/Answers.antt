-- `tell_written`: no names.
use Rattle.call_parts.specs.Area.{area_of}
use Rattle.writes.proofs.tell_written.Goals as goal

pub returns-in-Err : goal.returns-in-Err
unfolding area_of
returns-in-Err c = rw c.in-Err.is (c.number.ensures, c.tell_place.ensures)
