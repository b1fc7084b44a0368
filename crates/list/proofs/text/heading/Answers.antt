-- `heading`: part by part.
use Rattle.list.proofs.Decimals.{link}
use Rattle.list.specs.Text as meaning
use Rattle.list.proofs.text.heading.Goals as goal

pub returns : goal.returns
unfolding meaning.heading
returns c =
    link _ _ _ _ c.put.ensures
    (link _ _ _ _ c.put_after-3.ensures.added (link _ _ _ _ c.put_after-2.ensures.added (link _ _ _ _ c.put_after.ensures.added c.new-line.ensures)))
