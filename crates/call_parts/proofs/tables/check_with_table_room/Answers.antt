-- `check_with_table_room`: the verdict over the words lent, its place moved.
use borrow.Author.Rules.{rules}
use Rattle.call_parts.proofs.Judging.{judged-moved}
use Rattle.call_parts.proofs.tables.check_with_table_room.Goals as goal

pub returns : goal.returns
returns c = judged-moved _ _ _ _ c.requires c.load.ensures _ c.check.ensures _ (λ i x k. search rules) _ c.map_err.ensures.cases
