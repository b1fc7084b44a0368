-- `add_accepted`: the sums, or one has passed, and the report is as it was.
use mathlib.Core.Path.{◌≡◌}
use native.Mathlib.Omega.{arith}
use Rattle.std.specs.Prelude.{Some, None}
use Rattle.std.proofs.lemmas.Grind.{common_steps}
use Rattle.report.proofs.Adding.{accepted-goes, accepted-stops, names-fit}
use Rattle.report.proofs.add_accepted.Goals as goal

pub returns-then-is_none : goal.returns-then-is_none
returns-then-is_none c =
    let e : c.accept.result ≡ None = grind (arith, common_steps, c.if-is_none.ensures) in
    accepted-stops _ (λ k. grind arith) c.requires.goes _ _ _ (names-fit _ (λ k. omega (arith, (c.type_inv.words k).fits)) 0 _) _ _ c.accept.ensures _ e c.put_number.ensures

pub returns-else-is_none : goal.returns-else-is_none
returns-else-is_none c =
    let e : c.accept.result ≡ Some tt = grind (arith, common_steps, c.if-is_none.ensures) in
    accepted-goes _ (λ k. grind arith) c.requires.goes _ _ _ (names-fit _ (λ k. omega (arith, (c.type_inv.words k).fits)) 0 _) _ _ c.accept.ensures _ e
