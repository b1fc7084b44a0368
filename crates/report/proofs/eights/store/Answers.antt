use mathlib.Core.Path.{◌∙◌}
use Rattle.report.proofs.EightLaws.{eight-put}
use Rattle.report.proofs.eights.store.Goals as goal

pub returns : goal.returns
returns c = eight-put _ _ _ _ c.requires c.ranges.n.fits (c.copy_from_slice.ensures.after ∙ c.to_be_bytes.ensures)
