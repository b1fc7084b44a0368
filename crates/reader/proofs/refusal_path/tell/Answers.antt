-- A refusal is told, with the name behind the path's.
use mathlib.Core.Path.{refl}
use borrow.Author.Rules.{rules}
use Rattle.reader.proofs.RefusalPathLaws.{named_here}
use Rattle.reader.proofs.refusal_path.tell.Goals as goal

pub returns : goal.returns
returns c = (search (rules, named_here), refl)
