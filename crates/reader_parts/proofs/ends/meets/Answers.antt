-- A declared end is met where the place is it.
use mathlib.Core.Bool.{false}
use mathlib.Core.Path.{refl}
use Rattle.reader_parts.proofs.EndsLaws.{meets-coded, meets-free}
use Rattle.reader_parts.proofs.ends.meets.Goals as goal

pub returns-then-not-coded : goal.returns-then-not-coded
returns-then-not-coded c = rw c.if-not-coded.true (meets-free false _ _ refl)

pub returns-else-not-coded : goal.returns-else-not-coded
returns-else-not-coded c = meets-coded _ _ _ c.if-not-coded.false
