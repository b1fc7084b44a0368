-- A number that is neither text nor date.
use borrow.Author.Rules.{rules}
use Rattle.value.proofs.KindWays.{of-read}
use Rattle.value.proofs.kinds.of_kind.Goals as goal

pub returns-in_ok-word-in_default : goal.returns-in_ok-word-in_default
returns-in_ok-word-in_default c = of-read _ _ _ _ _ _ (search rules) (search rules) (search rules) _ c.by_kind.ensures _ _ c.in_ok-word-in_default.was _ c.word.ensures
