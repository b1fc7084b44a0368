-- The field of the word that is stored.
use native.Mathlib.Omega.{arith}
use Rattle.wire.proofs.Store.{old-under, changed-fits, changed-put}
use Rattle.wire.proofs.writing.put_word.Goals as goal

pub overflow_sub-x : goal.overflow_sub-x
overflow_sub-x c = old-under _ _ c.before.args.at _ _ (omega arith) (omega arith) (omega arith) _ 0 c.eight-x.ensures

pub overflow_add-x : goal.overflow_add-x
overflow_add-x c = record { fits = changed-fits _ _ c.before.args.at _ _ (omega arith) (omega arith) (omega arith) _ _ c.eight-x.ensures }

pub returns : goal.returns
returns c = changed-put _ _ _ _ _ (omega arith) (omega arith) (omega arith) _ _ c.eight-x.ensures _ c.store.ensures
