-- By the number, and for type codes by the table's derivations.
use Prim.Native.Nat.{◌<◌, ◌≤◌}
use mathlib.Core.Path.{◌∙◌}
use native.Mathlib.Omega.{arith}
use Rattle.table.specs.Rows.{table_of}
use Rattle.writer.proofs.FrontLaws.{never_number, optional_number, always_number, moded-none, moded_over, moded-three, moded-way}
use Rattle.writer.proofs.front.mode_of.Goals as goal
use Rattle.writer.proofs.front.mode_of.Goals.{Joined-else-casting, else-casting-via-then-casting+else-derivations-eq0, else-casting-via-else-casting, in-0, in-1, in-2}

derived : (c : Joined-else-casting) → 4 ≤ c.args.number → 0 < (table_of c.args.table.now).derivations
derived c h =
    elim c.else-casting.branch [
      | else-casting-via-then-casting+else-derivations-eq0 w ↦ omega (arith, w.derivations.ensures)
      | else-casting-via-else-casting w ↦ omega arith
    ]

pub returns-then-derivations-eq0 : goal.returns-then-derivations-eq0
returns-then-derivations-eq0 c = moded-none _ _ _ c.if-casting.true _ c.derivations.ensures c.if-derivations-eq0.true

pub returns-then-number : goal.returns-then-number
returns-then-number c = moded_over _ _ _ c.if-number.true

pub returns-in_default : goal.returns-in_default
returns-in_default c = moded-three _ _ _ (omega arith) c.if-number.false

pub returns : goal.returns
returns c =
    elim c.match-number-rem4.branch [
      | in-0 w ↦ rw w.lengths-is (moded-way _ _ _ _ (w.in-0.is ∙ never_number) c.if-number.false (derived (goal.at.returns c).Joined-else-casting) _ _ c.swaps.ensures c.offered-choices.ensures)
      | in-1 w ↦ rw w.lengths-is (moded-way _ _ _ _ (w.in-1.is ∙ optional_number) c.if-number.false (derived (goal.at.returns c).Joined-else-casting) _ _ c.swaps.ensures c.offered-choices.ensures)
      | in-2 w ↦ rw w.lengths-is (moded-way _ _ _ _ (w.in-2.is ∙ always_number) c.if-number.false (derived (goal.at.returns c).Joined-else-casting) _ _ c.swaps.ensures c.offered-choices.ensures)
    ]
