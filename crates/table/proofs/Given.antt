-- The header words: one where it is given, and one after another.
use Prim.Native.Nat.{ℕ, suc, ◌≤◌, ◌<◌}
use mathlib.Core.Path.{◌≡◌, sym, ap, ◌∙◌}
use mathlib.Core.List.{List, [], ◌∷◌}
use mathlib.Core.Logic.{◌⊎◌, inl, inr}
use mathlib.Core.Bool.{Bool, true, false}
use borrow.Author.Tests.{lt-ltb, le-ltb, le-leb, lt-leb}
use lib.ListN.{length}
use Rattle.std.specs.Prelude.{Ok, Err}
use Rattle.table.specs.Words.{word_at}
use Rattle.table.specs.First.{Verdict, first, judge}
use Rattle.table.specs.First.Verdict.{right, wrong}
use Rattle.table.proofs.FirstLaws.{judge-right, judge-wrong}
use Rattle.table.specs.Valid.{given}
use Rattle.table.specs.Views.{Checked, verdict_is}
use Rattle.table.specs.declared.answers.Flaw.{Flaw}
use Rattle.table.proofs.Tests.{holds}

-- a header word
module _ (l : List ℕ) (i least most : ℕ) where
  pub not-given : length l ≤ i → right ≡ judge i (given l i least most)
  unfolding given judge
  not-given h = sym (rw (le-ltb _ _ h))

  module _ (h : i < length l) (x : ℕ) (is : x ≡ word_at l i) where
    pub given-wrong : (x < least) ⊎ ((least ≤ x) × (most < x)) → wrong i ≡ judge i (given l i least most)
    unfolding given judge
    given-wrong (inl g) = sym (rw (lt-ltb _ _ h, ← is, lt-leb _ _ g))
    given-wrong (inr g) = sym (rw (lt-ltb _ _ h, ← is, le-leb _ _ g.0, lt-leb _ _ g.1))

    pub given-right : least ≤ x → x ≤ most → right ≡ judge i (given l i least most)
    unfolding given judge
    given-right g f = sym (rw (lt-ltb _ _ h, ← is, le-leb _ _ g, le-leb _ _ f))

-- one header word after another
module _ (i : ℕ) (x : Bool) (xs : List Bool) (r : Checked) (e : verdict_is r ≡ judge i x) where
  pub word-wrong : (k : Flaw) → r ≡ Err k → wrong k.0 ≡ first i (x ∷ xs)
  unfolding judge first
  word-wrong k w = let f = judge-wrong i x k.0 (sym e ∙ ap verdict_is w) in sym (ap verdict_is w) ∙ e ∙ rw f

  pub word-right : (v : Verdict) → r ≡ Ok tt → v ≡ first (suc i) xs → v ≡ first i (x ∷ xs)
  word-right v w f = holds i x xs v (judge-right i x (sym e ∙ ap verdict_is w)) f

pub word-last : (i : ℕ) (x : Bool) (v : Verdict) → v ≡ judge i x → v ≡ first i (x ∷ [])
unfolding judge first
word-last i true v e = e
word-last i false v e = e
