-- An element is next, or the rows that the row holds; a branch's or a count's event comes first.
use borrow.Author.Rules.{rules}
use Rattle.writer.proofs.CycleWays.{occur-within}
use Rattle.writer.proofs.GroupWays.{counted-word, picked-word, picked-row, picked_fits, choice-fits, child_fits, reach-element, reach-sequence, reach-unpicked, reach-picked, reach-uncounted, reach-counted}
use Rattle.writer.proofs.groups.reached.Goals as goal

pub pick-requires : goal.pick-requires
pick-requires c = c.requires.0

pub bounds-events-at : goal.bounds-events-at
bounds-events-at c = search (rules, picked-word, c.requires.0, c.pick.ensures, c.in-Ok.is)

pub overflow_add-x : goal.overflow_add-x
overflow_add-x c = picked_fits _ _ _ _ c.requires.0 _ _ _ c.in-Ok.is _ c.pick.ensures _ _ (choice-fits c.args.table.now _ _ _ c.in-Choice.is c.requires.2) c.requires.1

pub narrowed-requires : goal.narrowed-requires
narrowed-requires c = (c.requires.1, picked-row _ _ _ _ c.requires.0 _ _ _ c.in-Ok.is _ c.pick.ensures _ _ (choice-fits c.args.table.now _ _ _ c.in-Choice.is c.requires.2))

pub count-requires : goal.count-requires
count-requires c = c.requires.0

pub bounds-events-at-in-Ok-count : goal.bounds-events-at-in-Ok-count
bounds-events-at-in-Ok-count c = search (rules, counted-word, c.requires.0, c.count.ensures, c.in-Ok-count.is)

pub narrowed-requires-in-Ok-count : goal.narrowed-requires-in-Ok-count
narrowed-requires-in-Ok-count c = (c.requires.1, occur-within _ _ _ (child_fits c.args.table.now _ _ _ _ c.in-Occurs.is c.requires.2))

pub returns-in-Element : goal.returns-in-Element
returns-in-Element c = reach-element _ _ _ _ _ _ c.requires.0 _ _ _ _ c.in-Element.is c.requires.2

pub returns-in-Sequence : goal.returns-in-Sequence
returns-in-Sequence c = reach-sequence _ _ _ _ _ _ c.requires.0 _ _ _ c.in-Sequence.is c.requires.2

pub returns-in-Err : goal.returns-in-Err
returns-in-Err c = reach-unpicked _ _ _ _ _ _ c.requires.0 _ _ _ _ _ c.in-Choice.is c.pick.ensures _ c.in-Err.is

pub returns-in-Ok : goal.returns-in-Ok
returns-in-Ok c = reach-picked _ _ _ _ _ _ c.requires.0 _ _ _ _ _ c.in-Choice.is c.pick.ensures _ c.in-Ok.is _ c.narrowed.ensures

pub returns-in-Err-count : goal.returns-in-Err-count
returns-in-Err-count c = reach-uncounted _ _ _ _ _ _ c.requires.0 _ _ _ _ _ _ c.in-Occurs.is c.count.ensures _ c.in-Err-count.is

pub returns-in-Ok-count : goal.returns-in-Ok-count
returns-in-Ok-count c = reach-counted _ _ _ _ _ _ c.requires.0 _ _ _ _ _ _ c.in-Occurs.is c.count.ensures _ c.in-Ok-count.is _ c.narrowed-in-Ok-count.ensures
