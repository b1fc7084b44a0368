-- `utf8::first`: each arm is a row of `Start`; what is left lies between the first two rows, or past the last.
use borrow.Author.Rules.{rules}
use Rattle.utf8.specs.Steps.{rows}
use Rattle.utf8.proofs.Rows.{among, start-among, start_between, start-past}
use Rattle.utf8.proofs.first.Goals as goal

pub returns-in-224 : goal.returns-in-224
unfolding rows
returns-in-224 c = start-among {lo = 0xE0} {hi = 0xE0} (search among depth 12) (search rules)

pub returns-in-237 : goal.returns-in-237
unfolding rows
returns-in-237 c = start-among {lo = 0xED} {hi = 0xED} (search among depth 12) (search rules)

pub returns-in-240 : goal.returns-in-240
unfolding rows
returns-in-240 c = start-among {lo = 0xF0} {hi = 0xF0} (search among depth 12) (search rules)

pub returns-in-244 : goal.returns-in-244
unfolding rows
returns-in-244 c = start-among {lo = 0xF4} {hi = 0xF4} (search among depth 12) (search rules)

pub returns-in-0-to-127 : goal.returns-in-0-to-127
unfolding rows
returns-in-0-to-127 c = start-among {lo = 0x00} {hi = 0x7F} (search among depth 12) (search rules)

pub returns-in-194-to-223 : goal.returns-in-194-to-223
unfolding rows
returns-in-194-to-223 c = start-among {lo = 0xC2} {hi = 0xDF} (search among depth 12) (search rules)

pub returns-in-225-to-236 : goal.returns-in-225-to-236
unfolding rows
returns-in-225-to-236 c = start-among {lo = 0xE1} {hi = 0xEC} (search among depth 12) (search rules)

pub returns-in-238-to-239 : goal.returns-in-238-to-239
unfolding rows
returns-in-238-to-239 c = start-among {lo = 0xEE} {hi = 0xEF} (search among depth 12) (search rules)

pub returns-in-241-to-243 : goal.returns-in-241-to-243
unfolding rows
returns-in-241-to-243 c = start-among {lo = 0xF1} {hi = 0xF3} (search among depth 12) (search rules)

pub returns-in_default : goal.returns-in_default
returns-in_default c = start_between _ (search rules)

pub returns-in_default-2 : goal.returns-in_default-2
returns-in_default-2 c = start-past _ (search rules)
