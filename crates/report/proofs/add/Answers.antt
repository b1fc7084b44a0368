-- `add`: stopped, accepted or refused.
use mathlib.Core.Path.{refl, sym, ap, ◌∙◌}
use lib.ListN.{length}
use native.Mathlib.Omega.{arith}
use Rattle.numbers.proofs.Refusals.{number-some}
use Rattle.report.proofs.Adding.{whole-stays, whole-refused, stays-stopped}
use Rattle.report.proofs.add.Goals as goal

pub returns-then-number-ne0 : goal.returns-then-number-ne0
returns-then-number-ne0 c = rw (← c.in-Some.ensures.cases.same) (
    whole-stays _ _ _ _ c.in-Some.s.now _ (ap length c.in-Some.ensures.cases.same ∙ c.requires.size) (λ k. grind arith) (stays-stopped _ _ _ _ _ _ c.number.ensures c.if-number-ne0.true)
    )

pub add_accepted-requires : goal.add_accepted-requires
add_accepted-requires c = let e = c.in-Ok.is in let p = c.requires in
    record { few = rw e at p.few; used = rw e at p.used; most = (rw e at p.most) refl; goes = sym c.number.ensures ∙ c.if-number-ne0.false }

pub returns-in-Ok : goal.returns-in-Ok
returns-in-Ok c = rw (c.in-Ok.is, ← c.in-Some.ensures.cases.same) (whole-stays _ _ _ _ _ _ (omega arith) (λ k. grind arith) c.add_accepted.ensures)

pub returns-in-Err : goal.returns-in-Err
returns-in-Err c = rw (c.in-Err.is, ← c.in-Some.ensures.cases.same) (whole-refused _ _ _ _ _ _ (omega arith) (λ k. grind arith) (number-some c.in-Err.why) c.add_refused.ensures)
