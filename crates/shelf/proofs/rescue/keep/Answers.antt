use Rattle.shelf.proofs.Keeps.{keeps-none, keeps-some, ending-within, ready-within}
use Rattle.std.proofs.Common.{rules}
use Rattle.shelf.proofs.rescue.keep.Goals as goal

pub returns-in_default : goal.returns-in_default
returns-in_default c = search (rules, keeps-none)

pub kept_by-requires : goal.kept_by-requires
kept_by-requires c = search (rules, ending-within, ready-within)

pub returns : goal.returns
returns c = search (rules, keeps-some)
