-- One element, or rows as they are.
use Rattle.writer.proofs.GroupWays.{first-inside, narrow-rows, narrow-element}
use Rattle.writer.proofs.groups.narrowed.Goals as goal

pub particle-p-requires : goal.particle-p-requires
particle-p-requires c = first-inside _ c.args.depth c.args.x c.requires.0 c.requires.1 c.if-n-eq1.true

pub returns-in-Element : goal.returns-in-Element
returns-in-Element c = narrow-element _ _ c.args.x c.requires.0 c.requires.1 c.if-n-eq1.true c.if-depth-gt0.true _ c.particle-p.ensures _ _ _ c.in-Element.is

pub returns-in_default : goal.returns-in_default
returns-in_default c = narrow-rows _ _ c.args.x c.requires.0 c.requires.1

pub returns-else-depth-gt0 : goal.returns-else-depth-gt0
returns-else-depth-gt0 c = narrow-rows _ _ c.args.x c.requires.0 c.requires.1

pub returns-else-n-eq1 : goal.returns-else-n-eq1
returns-else-n-eq1 c = narrow-rows _ _ c.args.x c.requires.0 c.requires.1
