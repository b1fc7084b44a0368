-- Each way through the reading of a value by its kind.
use Prim.Native.Nat.{ℕ, zero, suc, ◌+◌, ◌-◌, ◌*◌, ◌<◌, ◌≤◌}
use mathlib.Core.Path.{◌≡◌, refl, sym, ap, ◌∙◌}
use mathlib.Core.List.{List}
use mathlib.Core.Bool.{true, false}
use Rattle.numbers.specs.Simple as simple
use Rattle.numbers.specs.Limit.{most_fixed, most_word}
use Rattle.wire.specs.declared.Bits.{Bits}
use Rattle.std.specs.Prelude.{Ok, Err}
use Rattle.numbers.specs.declared.refusal.Refusal.{Refusal}
use Rattle.wire.proofs.Res.{then, then-fault}
use Rattle.wire.specs.Bits.{bit_at}
use Rattle.wire.specs.Answer.{Read, read_is, fixed32}
use Rattle.wire.proofs.ReadWays.{read-value, read-refuse}
use Rattle.signed.specs.Words.{gap_of}
use Rattle.signed.specs.Views.{gap_is}
use Rattle.std.specs.Prelude.{Option, Some, None}
use Rattle.value.specs.Code.{Code, choice, five, signed, stamp, choice_at, number_at, code_at}
use Rattle.value.specs.Simple.{Simple, plain, dated, first_word, second_word, nothing, range_code, simple_of, simple_at, words_of}
use Rattle.value.proofs.SimpleLaws.{bytes-none, words-got, words-fault}
use Rattle.value.specs.Answer.{Valued, inner_is, code_is, form_is, value_is}
use Rattle.value.proofs.FormWays.{range-under, range-near, range-far}
use Rattle.value.proofs.ReadWays.{way-code-word}
use Rattle.value.specs.declared.Code.TheVariants as cv
use Rattle.value.specs.declared.Form.TheVariants as fv
use Rattle.value.specs.declared.Value as value_t
use Rattle.value.specs.declared.Value.TheVariants as vv
use Rattle.value.specs.Kinds.{plainly, kind_code, Raises}

-- ranged
module _ (b : ℕ → ℕ) (wall at x y : ℕ) (g : Option ℕ) (e : gap_is g ≡ gap_of x y) (r : Read) where
  pub ranged-under : g ≡ None → read_is r ≡ choice_at b 0 wall at → read_is r ≡ code_at (range_code x y) b wall at
  unfolding code_is inner_is code_at
  ranged-under w h = h ∙ ap (λ (k : Code). code_at k b wall at) (range-under x y g e w)

  module _ (k : ℕ) (w : g ≡ Some k) where
    pub ranged-near : (q : Read) → k ≤ most_fixed → read_is q ≡ choice_at b (k + 1) wall at → Raises x q r → read_is r ≡ code_at (range_code x y) b wall at
    unfolding code_is inner_is code_at
    ranged-near q l h t = t.says (choice (k + 1)) b wall at h ∙ ap (λ (k : Code). code_at k b wall at) (range-near x y g e k w l)

    pub ranged-far : (q : Read) → most_fixed < k → read_is q ≡ number_at b k wall at → Raises x q r → read_is r ≡ code_at (range_code x y) b wall at
    unfolding code_is inner_is code_at
    ranged-far q l h t = t.says (five k) b wall at h ∙ ap (λ (k : Code). code_at k b wall at) (range-far x y g e k w l)

pub ruleset ranged_ways = (ranged-under, ranged-near, ranged-far)

-- by_kind
module _ (b : ℕ → ℕ) (wall at kind x y : ℕ) (r : Read) where
  pub kind-boolean : kind ≡ simple.boolean → read_is r ≡ choice_at b 2 wall at → read_is r ≡ code_at (kind_code kind x y) b wall at
  unfolding kind_code plainly simple_of code_at
  kind-boolean z e = e ∙ sym (rw z)

  pub kind-ranged : kind ≡ simple.ranged → read_is r ≡ code_at (range_code x y) b wall at → read_is r ≡ code_at (kind_code kind x y) b wall at
  unfolding kind_code plainly simple_of
  kind-ranged z e = e ∙ sym (rw z)

  pub kind-unsigned : kind ≡ simple.unsigned → read_is r ≡ number_at b most_word wall at → read_is r ≡ code_at (kind_code kind x y) b wall at
  unfolding kind_code plainly simple_of code_at
  kind-unsigned z e = e ∙ sym (rw z)

  pub kind-signed : kind ≡ simple.signed → read_is r ≡ code_at signed b wall at → read_is r ≡ code_at (kind_code kind x y) b wall at
  unfolding kind_code plainly simple_of
  kind-signed z e = e ∙ sym (rw z)

  pub kind-enumerated : kind ≡ simple.enumeration → read_is r ≡ choice_at b x wall at → read_is r ≡ code_at (kind_code kind x y) b wall at
  unfolding kind_code plainly simple_of code_at
  kind-enumerated z e = e ∙ sym (rw z)

none_of : (kind x y : ℕ) → (kind ≡ simple.boolean → ⊥) → (kind ≡ simple.ranged → ⊥) → (kind ≡ simple.unsigned → ⊥) → (kind ≡ simple.signed → ⊥) → (kind ≡ simple.enumeration → ⊥) → (kind ≡ simple.float → ⊥) → kind_code kind x y ≡ nothing
unfolding kind_code plainly simple_of
none_of zero x y n₀ n₁ n₂ n₃ n₄ n₆ = absurd (n₀ refl)
none_of (suc zero) x y n₀ n₁ n₂ n₃ n₄ n₆ = absurd (n₁ refl)
none_of (suc (suc zero)) x y n₀ n₁ n₂ n₃ n₄ n₆ = absurd (n₂ refl)
none_of (suc (suc (suc zero))) x y n₀ n₁ n₂ n₃ n₄ n₆ = absurd (n₃ refl)
none_of (suc (suc (suc (suc zero)))) x y n₀ n₁ n₂ n₃ n₄ n₆ = absurd (n₄ refl)
none_of (suc (suc (suc (suc (suc zero))))) x y n₀ n₁ n₂ n₃ n₄ n₆ = refl
none_of (suc (suc (suc (suc (suc (suc zero)))))) x y n₀ n₁ n₂ n₃ n₄ n₆ = absurd (n₆ refl)
none_of (suc (suc (suc (suc (suc (suc (suc zero))))))) x y n₀ n₁ n₂ n₃ n₄ n₆ = refl
none_of (suc (suc (suc (suc (suc (suc (suc (suc zero)))))))) x y n₀ n₁ n₂ n₃ n₄ n₆ = refl
none_of (suc (suc (suc (suc (suc (suc (suc (suc (suc k))))))))) x y n₀ n₁ n₂ n₃ n₄ n₆ = refl

module _ (s : List ℕ) (wall at kind x y : ℕ) (r : Read) where
  pub kind-float : kind ≡ simple.float → read_is r ≡ fixed32 (bit_at s) wall at 32 → read_is r ≡ code_at (kind_code kind x y) (bit_at s) wall at
  unfolding kind_code plainly simple_of code_is
  kind-float z e = way-code-word s wall at cv.Word r refl e ∙ sym (rw z)

  pub kind-none : (kind ≡ simple.boolean → ⊥) → (kind ≡ simple.ranged → ⊥) → (kind ≡ simple.unsigned → ⊥) → (kind ≡ simple.signed → ⊥) → (kind ≡ simple.enumeration → ⊥) → (kind ≡ simple.float → ⊥)
      → read_is r ≡ choice_at (bit_at s) 0 wall at → read_is r ≡ code_at (kind_code kind x y) (bit_at s) wall at
  unfolding code_at
  kind-none n₀ n₁ n₂ n₃ n₄ n₆ e = e ∙ sym (rw (none_of kind x y n₀ n₁ n₂ n₃ n₄ n₆))

pub ruleset kind_ways = (kind-boolean, kind-ranged, kind-unsigned, kind-signed, kind-enumerated, kind-float, kind-none)

-- of_kind
plain-kind : (kind x y : ℕ) → (kind ≡ simple.text → ⊥) → (kind ≡ simple.date_time → ⊥) → (kind ≡ simple.date → ⊥) → simple_of kind x y ≡ plain (kind_code kind x y)
unfolding kind_code plainly simple_of
plain-kind zero x y n₅ n₇ n₈ = refl
plain-kind (suc zero) x y n₅ n₇ n₈ = refl
plain-kind (suc (suc zero)) x y n₅ n₇ n₈ = refl
plain-kind (suc (suc (suc zero))) x y n₅ n₇ n₈ = refl
plain-kind (suc (suc (suc (suc zero)))) x y n₅ n₇ n₈ = refl
plain-kind (suc (suc (suc (suc (suc zero))))) x y n₅ n₇ n₈ = absurd (n₅ refl)
plain-kind (suc (suc (suc (suc (suc (suc zero)))))) x y n₅ n₇ n₈ = refl
plain-kind (suc (suc (suc (suc (suc (suc (suc zero))))))) x y n₅ n₇ n₈ = absurd (n₇ refl)
plain-kind (suc (suc (suc (suc (suc (suc (suc (suc zero)))))))) x y n₅ n₇ n₈ = absurd (n₈ refl)
plain-kind (suc (suc (suc (suc (suc (suc (suc (suc (suc k))))))))) x y n₅ n₇ n₈ = refl

module _ (s : List ℕ) (wall at kind x y : ℕ) where
  -- what is read is so of the kind
  abbrev Reads : Valued → Type 0
  Reads v = value_is (bit_at s) v ≡ words_of (simple_of kind x y) (simple_at (simple_of kind x y) (bit_at s) wall at)

  abbrev ReadsAs : Simple → Valued → Type 0
  ReadsAs f v = value_is (bit_at s) v ≡ words_of f (simple_at f (bit_at s) wall at)

  pub of-text : (v : Valued) → kind ≡ simple.text → ReadsAs (form_is fv.Text) v → Reads v
  unfolding simple_of form_is
  of-text v z e = e ∙ sym (rw z)

  pub of-date-time : (v : Valued) → kind ≡ simple.date_time → ReadsAs (dated (stamp true)) v → Reads v
  unfolding simple_of
  of-date-time v z e = e ∙ sym (rw z)

  pub of-date : (v : Valued) → kind ≡ simple.date → ReadsAs (dated (stamp false)) v → Reads v
  unfolding simple_of
  of-date v z e = e ∙ sym (rw z)

  -- a number by its code
  module _ (code : Code) (f : simple_of kind x y ≡ plain code) (r : Read) (e : read_is r ≡ code_at code (bit_at s) wall at) where
    coded-refused : (n : Refusal) → r ≡ Err n → Reads (Err n)
    unfolding value_is simple_at
    coded-refused n g = rw f (sym (words-fault (plain code) (then-fault _ (read-refuse e g))))

    coded-read : (v : ℕ) (p : Bits) → r ≡ Ok (v, p) → (x : value_t.Value) → x ≡ vv.Read v (record { 0 = 0 }) p → Reads (Ok x)
    unfolding value_is simple_at first_word second_word
    coded-read v p g x z = rw (z, f, bytes-none (bit_at s) (p.0 - 8 * 0)) (sym (words-got (plain code) (then _ (read-value e g) refl)))

  module _ (n₅ : kind ≡ simple.text → ⊥) (n₇ : kind ≡ simple.date_time → ⊥) (n₈ : kind ≡ simple.date → ⊥) (r : Read) (e : read_is r ≡ code_at (kind_code kind x y) (bit_at s) wall at) where
    pub of-refused : (n : Refusal) → r ≡ Err n → Reads (Err n)
    of-refused = coded-refused (kind_code kind x y) (plain-kind kind x y n₅ n₇ n₈) r e

    pub of-read : (v : ℕ) (p : Bits) → r ≡ Ok (v, p) → (x : value_t.Value) → x ≡ vv.Read v (record { 0 = 0 }) p → Reads (Ok x)
    of-read = coded-read (kind_code kind x y) (plain-kind kind x y n₅ n₇ n₈) r e

pub ruleset of_kind_ways = (of-text, of-date-time, of-date, of-refused, of-read)
