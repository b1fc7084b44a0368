-- Past the end a list has its default.
use mathlib.Core.Path.{sym}
use native.Mathlib.Omega.{arith}
use lib.ListN.{get_or-eq_default}
use borrow.Author.Rules.{rules}
use Rattle.wire.proofs.window.byte.Goals as goal

pub returns : goal.returns
returns c = (sym (get_or-eq_default c.args.s.now 0 {n = c.args.i} (search rules)), omega arith)
