-- A byte, or the low bits of one and the high bits of the next.
use Prim.Native.Nat.{◌+◌}
use native.Mathlib.Omega.{arith}
use Rattle.utf8.proofs.SlantedLaws.{octet-whole, octet-joined, joined-fits}
use borrow.Author.Rules.{rules}
use Rattle.utf8.proofs.slanted.octet.Goals as goal

pub returns-then-k-eq0 : goal.returns-then-k-eq0
returns-then-k-eq0 c = search (rules, octet-whole)

pub overflow_add-result : goal.overflow_add-result
overflow_add-result c = let a = c.args in
    let bytes = c.type_inv.s in
    record { fits = joined-fits _ _ (bytes a.i).fits (bytes (a.i + 1)).fits a.k (omega arith) (omega arith) }

pub returns : goal.returns
returns c = search (rules, octet-joined)
