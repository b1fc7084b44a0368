-- Each way through the functions that choose a code.
use Prim.Native.Nat.{ℕ, zero, suc, ◌+◌, ◌-◌, ◌<◌, ◌≤◌, min}
use mathlib.Core.Path.{◌≡◌, refl, sym, ◌∙◌}
use mathlib.Core.Bool.{true, false}
use lib.Dec.{ltb}
use native.Mathlib.Omega.{arith}
use borrow.Author.Tests.{le-leb, lt-leb, lt-ltb, le-ltb, eq-eqb, ne_eqb}
use Rattle.numbers.specs.Simple as simple
use Rattle.numbers.specs.Limit.{most_fixed, most_times, most_word, unbounded}
use Rattle.signed.specs.Words.{gap_of}
use Rattle.signed.specs.Views.{gap_is}
use Rattle.signed.proofs.Laws.{met_by, met-under}
use Rattle.std.specs.Prelude.{Option, Some, None}
use Rattle.value.specs.Simple.{span_code, range_code, unbounded_code, bounded_code, times_code, simple_of}
use Rattle.value.specs.Answer.{inner_is, code_is, form_is}
use Rattle.value.specs.declared.Inner.TheVariants as iv
use Rattle.value.specs.declared.Code as code_t
use Rattle.value.specs.declared.Code.TheVariants as cv
use Rattle.value.specs.declared.Form.TheVariants as fv

module _ (b c : ℕ) (r : Option ℕ) (e : gap_is r ≡ gap_of b c) where
  pub range-under : r ≡ None → code_is (cv.Plain (iv.Choice 0)) ≡ range_code b c
  unfolding range_code span_code code_is inner_is
  range-under w = sym (rw (met-under b c r e w))

  module _ (k : ℕ) (w : r ≡ Some k) where
    pub range-near : k ≤ most_fixed → code_is (cv.Shifted b (iv.Choice (k + 1))) ≡ range_code b c
    unfolding range_code span_code code_is inner_is
    range-near h = sym (rw (met_by b c r e k w, le-leb _ _ h))

    pub range-far : most_fixed < k → code_is (cv.Shifted b (iv.Five k)) ≡ range_code b c
    unfolding range_code span_code code_is inner_is
    range-far h = sym (rw (met_by b c r e k w, lt-leb _ _ h))

pub ruleset range_ways = (range-under, range-near, range-far)

pub open_none : (least : ℕ) → least ≡ 0 → code_is (cv.Some (iv.Five most_times)) ≡ unbounded_code least
unfolding unbounded_code code_is inner_is
open_none least z = rw z

pub open-some : (least k : ℕ) → (least ≡ 0 → ⊥) → k ≡ most_times - least → code_is (cv.Shifted least (iv.Five k)) ≡ unbounded_code least
unfolding unbounded_code code_is inner_is
open-some zero k z e = absurd (z refl)
open-some (suc n) k z e = rw e

pub ruleset open_ways = (open_none, open-some)

module _ (least most : ℕ) where
  pub bound-flag : least ≡ 0 → most ≤ 1 → code_is (cv.Plain (iv.Choice (most + 1))) ≡ bounded_code least most
  unfolding bounded_code code_is inner_is
  bound-flag z h = sym (rw (z, le-leb _ _ h))

  pub bound_some : least ≡ 0 → 1 < most → code_is (cv.Some (iv.Choice (most + 1))) ≡ bounded_code least most
  unfolding bounded_code code_is inner_is
  bound_some z h = sym (rw (z, lt-leb _ _ h))

pub bound-from : (least most k : ℕ) → (least ≡ 0 → ⊥) → k ≡ most - least → code_is (cv.Shifted least (iv.Choice (k + 1))) ≡ bounded_code least most
unfolding bounded_code code_is inner_is
bound-from zero most k z e = absurd (z refl)
bound-from (suc n) most k z e = rw e

pub ruleset bound_ways = (bound-flag, bound_some, bound-from)

module _ (least most : ℕ) where
  pub times-crossed : most < least → code_is (cv.Plain (iv.Choice 0)) ≡ times_code least most
  unfolding times_code code_is inner_is
  times-crossed h = sym (rw (lt-ltb (min most most_times) least (omega arith)))

  pub times-from : most_times < least → code_is (cv.Plain (iv.Choice 0)) ≡ times_code least most
  unfolding times_code code_is inner_is
  times-from h = sym (rw (lt-ltb (min most most_times) least (omega arith)))

  module _ (h : least ≤ most) (l : least ≤ most_times) where
    least-in : ltb (min most most_times) least ≡ false
    least-in = le-ltb (min most most_times) least (omega arith)

    pub times-over : unbounded < most → code_is (cv.Plain (iv.Choice 0)) ≡ times_code least most
    unfolding times_code code_is inner_is
    times-over k = sym (rw (least-in, lt-ltb _ _ k))

    module _ (k : most ≤ unbounded) where
      pub times-open : (r : code_t.Code) → most ≡ unbounded → code_is r ≡ unbounded_code least → code_is r ≡ times_code least most
      unfolding times_code
      times-open r z e = e ∙ sym (rw (least-in, le-ltb _ _ k, eq-eqb _ _ z))

      pub times-bounded : (r : code_t.Code) → (most ≡ unbounded → ⊥) → code_is r ≡ bounded_code least most → code_is r ≡ times_code least most
      unfolding times_code
      times-bounded r z e = e ∙ sym (rw (least-in, le-ltb _ _ k, ne_eqb _ _ z))

pub ruleset times_ways = (times-crossed, times-from, times-over, times-open, times-bounded)

-- a kind as the tests tell it
module _ (kind b c : ℕ) where
  pub simple-boolean : kind ≡ simple.boolean → form_is (fv.Number (cv.Plain (iv.Choice 2))) ≡ simple_of kind b c
  unfolding simple_of form_is code_is inner_is
  simple-boolean z = sym (rw z)

  pub simple-ranged : (r : code_t.Code) → kind ≡ simple.ranged → code_is r ≡ range_code b c → form_is (fv.Number r) ≡ simple_of kind b c
  unfolding simple_of form_is
  simple-ranged r z e = rw e (sym (rw z))

  pub simple-unsigned : kind ≡ simple.unsigned → form_is (fv.Number (cv.Plain (iv.Five most_word))) ≡ simple_of kind b c
  unfolding simple_of form_is code_is inner_is
  simple-unsigned z = sym (rw z)

  pub simple-signed : kind ≡ simple.signed → form_is (fv.Number cv.Signed) ≡ simple_of kind b c
  unfolding simple_of form_is code_is
  simple-signed z = sym (rw z)

  pub simple-enumerated : kind ≡ simple.enumeration → form_is (fv.Number (cv.Plain (iv.Choice b))) ≡ simple_of kind b c
  unfolding simple_of form_is code_is inner_is
  simple-enumerated z = sym (rw z)

  pub simple-text : kind ≡ simple.text → form_is fv.Text ≡ simple_of kind b c
  unfolding simple_of form_is
  simple-text z = sym (rw z)

  pub simple-float : kind ≡ simple.float → form_is (fv.Number cv.Word) ≡ simple_of kind b c
  unfolding simple_of form_is code_is
  simple-float z = sym (rw z)

  pub simple-date-time : kind ≡ simple.date_time → form_is (fv.Dated true) ≡ simple_of kind b c
  unfolding simple_of form_is
  simple-date-time z = sym (rw z)

  pub simple-date : kind ≡ simple.date → form_is (fv.Dated false) ≡ simple_of kind b c
  unfolding simple_of form_is
  simple-date z = sym (rw z)

pub simple-none : (kind b c : ℕ) → (kind ≡ simple.boolean → ⊥) → (kind ≡ simple.ranged → ⊥) → (kind ≡ simple.unsigned → ⊥) → (kind ≡ simple.signed → ⊥) → (kind ≡ simple.enumeration → ⊥) → (kind ≡ simple.text → ⊥) → (kind ≡ simple.float → ⊥) → (kind ≡ simple.date_time → ⊥) → (kind ≡ simple.date → ⊥)
    → form_is (fv.Number (cv.Plain (iv.Choice 0))) ≡ simple_of kind b c
unfolding simple_of form_is code_is inner_is
simple-none zero b c n₀ n₁ n₂ n₃ n₄ n₅ n₆ n₇ n₈ = absurd (n₀ refl)
simple-none (suc zero) b c n₀ n₁ n₂ n₃ n₄ n₅ n₆ n₇ n₈ = absurd (n₁ refl)
simple-none (suc (suc zero)) b c n₀ n₁ n₂ n₃ n₄ n₅ n₆ n₇ n₈ = absurd (n₂ refl)
simple-none (suc (suc (suc zero))) b c n₀ n₁ n₂ n₃ n₄ n₅ n₆ n₇ n₈ = absurd (n₃ refl)
simple-none (suc (suc (suc (suc zero)))) b c n₀ n₁ n₂ n₃ n₄ n₅ n₆ n₇ n₈ = absurd (n₄ refl)
simple-none (suc (suc (suc (suc (suc zero))))) b c n₀ n₁ n₂ n₃ n₄ n₅ n₆ n₇ n₈ = absurd (n₅ refl)
simple-none (suc (suc (suc (suc (suc (suc zero)))))) b c n₀ n₁ n₂ n₃ n₄ n₅ n₆ n₇ n₈ = absurd (n₆ refl)
simple-none (suc (suc (suc (suc (suc (suc (suc zero))))))) b c n₀ n₁ n₂ n₃ n₄ n₅ n₆ n₇ n₈ = absurd (n₇ refl)
simple-none (suc (suc (suc (suc (suc (suc (suc (suc zero)))))))) b c n₀ n₁ n₂ n₃ n₄ n₅ n₆ n₇ n₈ = absurd (n₈ refl)
simple-none (suc (suc (suc (suc (suc (suc (suc (suc (suc k))))))))) b c n₀ n₁ n₂ n₃ n₄ n₅ n₆ n₇ n₈ = refl

pub ruleset simple_ways = (simple-boolean, simple-ranged, simple-unsigned, simple-signed, simple-enumerated, simple-text, simple-float, simple-date-time, simple-date, simple-none)
