-- `tell_answer`: a reading, which has no path, or a refusal with one; the area does not show the number.
use mathlib.Core.Path.{refl, ◌∙◌}
use Rattle.reads.proofs.PathNames.{among, path-told, counted}
use borrow.Author.Rules.{rules}
use Rattle.reads.proofs.tell_answer.Goals as goal

pub shared_ref_as_front-tell : goal.shared_ref_as_front-tell
shared_ref_as_front-tell c = counted _ c.in-Err.r _ c.in-Err.is c.requires.1

pub returns-in-Err : goal.returns-in-Err
returns-in-Err c = rw c.in-Err.is (refl, c.tell-in-Err.ensures ∙ path-told c.in-Err.r (among _ _ (search rules) (counted _ c.in-Err.r _ c.in-Err.is c.requires.1)))
