-- `event_line`: part by part.
use Rattle.list.proofs.Decimals.{link}
use Rattle.list.specs.Text.{event_line}
use Rattle.list.proofs.text.event_line.Goals as goal

pub returns : goal.returns
unfolding event_line
returns c =
    link _ _ _ _ c.put.ensures
    (link _ _ _ _ c.put_after-3.ensures.added
    (link _ _ _ _ c.put_after-2.ensures.added (link _ _ _ _ c.put_after.ensures.added (link _ _ _ _ c.put_number.ensures.added c.new-line.ensures))))
