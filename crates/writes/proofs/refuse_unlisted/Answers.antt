-- `refuse_unlisted`: the place of no_reading moves, that of no other number does.
use mathlib.Core.Path.{◌≡◌, sym, ap, ◌∙◌}
use native.Mathlib.Omega.{arith}
use Rattle.std.specs.Prelude.{Err}
use Rattle.numbers.specs.Refusal.{no_reading}
use Rattle.numbers.proofs.Refusals.{number-one}
use Rattle.writer.specs.Answers.{Answer, answer_is}
use Rattle.writes.proofs.Lists.{none-late, none-early, written-told}
use Rattle.writes.proofs.refuse_unlisted.Goals as goal

pub returns-in_default : goal.returns-in_default
returns-in_default c = let w = c.write-a in
    written-told _ _ _ _ _ _ _ _ _
    (none-early _ _ _ _ _ _ _ _ _ _ _ w.result _ w.ensures
    (λ z. let k : 0 ≡ no_reading = sym (ap (λ (x : Answer). (answer_is x).number) c.in_default.is) ∙ z in omega arith)) c.tell_written.ensures

pub returns-in-NoReading : goal.returns-in-NoReading
returns-in-NoReading c = let w = c.write-a in
    let e = c.in-Err.is ∙ (λ i. Err (record { why = c.in-NoReading.is i; at = c.in-Err.fault.at })) in
    written-told _ _ _ _ _ _ _ _ _ (none-late _ _ _ _ _ _ _ _ _ _ _ w.result _ w.ensures _ e) (rw c.in-NoReading.is at c.tell_written-in-NoReading.ensures)

pub returns-in_default-why : goal.returns-in_default-why
returns-in_default-why c =
    written-told _ _ _ _ _ _ _ _ _
    (none-early _ _ _ _ _ _ _ _ _ _ _ (Err c.in-Err.fault) _ c.in-Err.ensures (λ z. c.in_default-why.not-NoReading (number-one z)))
    c.tell_written-in_default-why.ensures
