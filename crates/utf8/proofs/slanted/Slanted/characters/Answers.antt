-- What is passed are whole characters.
use mathlib.Core.Path.{ap}
use mathlib.Core.Bool.{not}
use Rattle.utf8.proofs.SlantedLaws.{went-none, went-passed, went-more, pair-there}
use borrow.Author.Rules.{rules}
use Rattle.utf8.proofs.slanted.Slanted.characters.Goals as goal

pub loop-from-init : goal.loop-from-init
loop-from-init c = search (rules, went-none)

pub returns-then-not-pair : goal.returns-then-not-pair
returns-then-not-pair c = search (rules, went-passed)

pub overflow_add-i : goal.overflow_add-i
overflow_add-i c = let h = pair-there _ _ _ _ _ c.pair.ensures (ap not c.if-not-pair.false) in search rules

pub loop-from-smaller : goal.loop-from-smaller
loop-from-smaller c = let h = pair-there _ _ _ _ _ c.pair.ensures (ap not c.if-not-pair.false) in search rules

pub loop-from-preserved : goal.loop-from-preserved
loop-from-preserved c = search (rules, went-more)
