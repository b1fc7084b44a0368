-- `write_with_event_room`: no whole events, too many events, the least, few, or on its rung.
use Rattle.writes.proofs.Lists.{list-odd, list-long}
use borrow.Author.Rules.{rules}
use Rattle.writes.proofs.write_with_event_room.Goals as goal

pub returns-then-over-ne0 : goal.returns-then-over-ne0
returns-then-over-ne0 c = search (rules, list-odd)

pub returns-then-n-gt-MOST_EVENTS : goal.returns-then-n-gt-MOST_EVENTS
returns-then-n-gt-MOST_EVENTS c = search (rules, list-long)
