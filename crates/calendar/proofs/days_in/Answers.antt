-- `days_in`: the month whose days depend on the year.
use mathlib.Core.Path.{refl}
use Rattle.calendar.specs.Plain.{days_in}
use Rattle.calendar.proofs.days_in.Goals as goal

pub returns-in-2 : goal.returns-in-2
unfolding days_in
returns-in-2 c = rw (c.in-2.is, ← c.is_leap.ensures, c.if-is_leap.true) refl

pub returns-in-2-2 : goal.returns-in-2-2
unfolding days_in
returns-in-2-2 c = rw (c.in-2.is, ← c.is_leap.ensures, c.if-is_leap.false) refl
