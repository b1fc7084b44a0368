-- Many rows: what is left after some turns of a loop, and the ways out of it.
use Prim.Native.Nat.{ℕ, suc, ◌+◌, ◌-◌, ◌≤◌, ◌<◌}
use mathlib.Core.Path.{◌≡◌, sym, ap, ◌∙◌}
use mathlib.Core.List.{List}
use mathlib.Core.Bool.{Bool}
use native.Mathlib.Omega.{arith}
use native.Mathlib.Numerals.{add-one}
use Rattle.std.specs.Prelude.{Ok, Err}
use Rattle.table.specs.First.{first, ◌then◌}
use Rattle.table.specs.First.Verdict.{right, wrong}
use Rattle.table.proofs.FirstLaws.{then-right, then-wrong}
use Rattle.table.specs.Valid.{rows}
use Rattle.table.proofs.Lines.{Lined, rows_step}
use Rattle.table.specs.Views.{Checked, verdict_is}
use Rattle.table.specs.declared.answers.Flaw.{Flaw}

-- of N rows the first i are right, so the verdict on those from i on is the verdict on all
abbrev pub Left : (place : ℕ → ℕ) (f : ℕ → List Bool) (N i : ℕ) → Type 0
Left place f N i = (i ≤ N) × (first (place 0) (rows f 0 N) ≡ first (place i) (rows f i (N - i)))

module _ (place : ℕ → ℕ) (f : ℕ → List Bool) (lined : Lined place f) (N : ℕ) where
  pub turns-start : Left place f N 0
  turns-start = (omega arith, let e : N - 0 ≡ N = omega arith in rw e)

  module _ (i : ℕ) (left : Left place f N i) where
    pub turns-done : N ≤ i → right ≡ first (place 0) (rows f 0 N)
    unfolding rows first
    turns-done h = sym (left.1 ∙ (let e : N - i ≡ 0 = omega arith in rw e))

    module _ (h : i < N) (r : Checked) (e : verdict_is r ≡ first (place i) (f i)) where
      from : first (place 0) (rows f 0 N) ≡ first (place i) (f i) then first (place (i + 1)) (rows f (i + 1) (N - (i + 1)))
      from = left.1 ∙ (let k : N - i ≡ suc (N - (i + 1)) = omega arith in rw (k, add-one i) (rows_step place f lined i (N - suc i)))

      pub turn-wrong : (k : Flaw) → r ≡ Err k → wrong k.0 ≡ first (place 0) (rows f 0 N)
      turn-wrong k w = sym (from ∙ then-wrong _ _ k.0 (sym e ∙ ap verdict_is w))

      pub turn-right : r ≡ Ok tt → Left place f N (i + 1)
      turn-right w = (omega arith, from ∙ then-right _ _ (sym e ∙ ap verdict_is w))
