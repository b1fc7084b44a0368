-- No rows, one element, or rows as they are.
use Rattle.reader.proofs.AimWays.{narrow-none, narrow-rows, first-inside, narrow-deep, narrow-element}
use Rattle.reader.proofs.groups.narrowed.Goals as goal

pub returns-then-n-eq0 : goal.returns-then-n-eq0
returns-then-n-eq0 c = search (narrow-none, c.requires.0, c.requires.1, c.if-n-eq0.true)

pub particle-p-requires : goal.particle-p-requires
particle-p-requires c = search (first-inside, c.requires.0, c.requires.1, c.if-n-eq1.true)

pub returns-then-depth-eq0 : goal.returns-then-depth-eq0
returns-then-depth-eq0 c = search (narrow-deep, c.requires.0, c.requires.1, c.if-n-eq1.true, c.particle-p.ensures, c.in-Element.is, c.if-depth-eq0.true)

pub returns-in-Element : goal.returns-in-Element
returns-in-Element c = search (narrow-element, c.requires.0, c.requires.1, c.if-n-eq1.true, c.particle-p.ensures, c.in-Element.is, c.if-depth-eq0.false)

pub returns-in_default : goal.returns-in_default
returns-in_default c = search (narrow-rows, c.requires.0, c.requires.1)

pub returns-else-n-eq1 : goal.returns-else-n-eq1
returns-else-n-eq1 c = search (narrow-rows, c.requires.0, c.requires.1)
