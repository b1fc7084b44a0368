-- `line_of`: the lines passed are neither free nor the name's.
use mathlib.Core.Path.{refl, sym, ◌∙◌}
use Rattle.report.specs.Report.{line_of}
use Rattle.report.proofs.Ways.{line-free-is, line-named-is, line-none-is, line-again}
use Rattle.report.proofs.lines.line_of.Goals.{then-number-eq0-via-then-number-eq0, then-number-eq0-via-else-number-eq0+then-number-name}
use Rattle.report.proofs.lines.line_of.Goals as goal

pub loop-k-init : goal.loop-k-init
unfolding line_of
loop-k-init c = refl

pub returns-then-number-eq0 : goal.returns-then-number-eq0
returns-then-number-eq0 c = c.of_names.ensures ∙ elim c.then-number-eq0.branch [
  | then-number-eq0-via-then-number-eq0 w ↦ line-free-is _ _ _ c.loop-k-test.true c.loop-k.invariant (sym c.number.ensures ∙ w.if-number-eq0.true)
  | then-number-eq0-via-else-number-eq0+then-number-name w ↦
      line-named-is _ _ _ c.loop-k-test.true c.loop-k.invariant (λ z. w.if-number-eq0.false (c.number.ensures ∙ z)) (sym w.number-else-number-eq0.ensures ∙ w.if-number-name.true)
]

pub loop-k-preserved : goal.loop-k-preserved
loop-k-preserved c = line-again _ _ _ c.loop-k-test.true c.loop-k.invariant (λ z. c.if-number-eq0.false (c.number.ensures ∙ z)) (λ z. c.if-number-name.false (c.number-else-number-eq0.ensures ∙ z))

pub returns : goal.returns
returns c = c.other.ensures ∙ line-none-is _ _ c.loop-k.k c.loop-k-test.false c.loop-k.invariant
