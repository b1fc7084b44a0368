-- `load`: two words, each below 2^32.
use mathlib.Core.Path.{◌∙◌}
use Rattle.report.proofs.EightLaws.{number-halves}
use Rattle.report.proofs.eights.load.Goals as goal

pub returns : goal.returns
returns c = let a = c.args in
    number-halves a.s.now a.p _ _ (c.from-high.ensures ∙ c.word.ensures) (c.from-low.ensures ∙ c.word-2.ensures)
