-- `push`: one line more, where there is room.
use mathlib.Core.Path.{ap, ◌∙◌}
use mathlib.Core.List.{◌∷◌}
use native.Mathlib.Omega.{arith}
use Rattle.report.proofs.Ways.{stack-below, opens-more}
use Rattle.report.proofs.stack.Stack.push.Goals as goal

pub bounds-self-inside-self-inside : goal.bounds-self-inside-self-inside
bounds-self-inside-self-inside c = stack-below _ _ _ _ c.self.view_is c.requires

pub listed : goal.listed
listed c = let h = stack-below _ _ _ _ c.self.view_is c.requires in omega arith

pub invariant_of-self : goal.invariant_of-self
invariant_of-self c = let h = stack-below _ _ _ _ c.self.view_is c.requires in omega arith

pub returns : goal.returns
returns c =
    let h = stack-below _ _ _ _ c.self.view_is c.requires in
    opens-more _ _ c.args.line (omega arith) ∙ ap (λ l. c.args.line ∷ l) c.self.view_is
