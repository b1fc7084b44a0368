-- Each way through the functions that read codes and values: r is the answer of a call. `search` finds the premises.
use Prim.Native.Nat.{ℕ, suc, ◌+◌, ◌-◌, ◌*◌, ◌^◌, ◌<◌, ◌≤◌}
use mathlib.Core.Path.{◌≡◌, refl, sym, ap, ◌∙◌}
use mathlib.Core.Bool.{Bool}
use mathlib.Core.List.{List}
use native.Mathlib.Omega.{arith}
use native.Mathlib.Decide.{dec_le}
use Rattle.numbers.specs.Refusal.{past_end, too_large, no_such_code, minus_zero}
use Rattle.numbers.specs.Limit.{most_text}
use Rattle.wire.specs.declared.Bits.{Bits}
use Rattle.wire.specs.declared.Bytes.{Bytes}
use Rattle.std.specs.Prelude.{Result, Ok, Err}
use Rattle.numbers.specs.declared.refusal.Refusal.{Refusal}
use Rattle.numbers.specs.declared.refusal.Refusal.TheVariants as refusal
use Rattle.numbers.specs.Refused.{number_of, answered}
use Rattle.wire.proofs.Res.{then, then-fault, under-then, under-fault}
use Rattle.wire.specs.Bits.{bit_at, fixed_at}
use Rattle.wire.proofs.BitLaws.{bit-lt, num-under, fixed_in, fixed-past}
use Rattle.wire.specs.Width.{width}
use Rattle.wire.proofs.Width.{width-under, width-pow}
use Rattle.wire.specs.Number.{read5}
use Rattle.wire.specs.Answer.{Read, read_is, fixed32}
use Rattle.wire.proofs.ReadWays.{read-value, read-refuse, wide}
use Rattle.wire.specs.Lawful.{Stands}
use Rattle.signed.specs.Words.{up, word_of}
use Rattle.utf8.specs.Text.{text_fault}
use Rattle.value.specs.Code.{Code, five, signed, some, shifted, stamp, HasCode, bits_of, choice_at, number_at, signed_of, some_of, code_at}
use Rattle.value.proofs.CodeLaws.{code-lawful}
use Rattle.value.specs.Simple.{plain, text, dated, first_word, second_word, bytes_at, text_of, simple_at, words_of}
use Rattle.value.proofs.SimpleLaws.{bytes-none, passes_then, passes-fault, words-got, words-fault}
use Rattle.value.specs.Answer.{Valued, inner_is, code_is, form_is, value_is}
use Rattle.value.specs.declared.Inner as inner_t
use Rattle.value.specs.declared.Inner.TheVariants as iv
use Rattle.value.specs.declared.Code as code_t
use Rattle.value.specs.declared.Code.TheVariants as cv
use Rattle.value.specs.declared.Form as form_t
use Rattle.value.specs.declared.Form.TheVariants as fv
use Rattle.value.specs.declared.Value as value_t
use Rattle.value.specs.declared.Value.TheVariants as vv
use Rattle.value.specs.Kinds.{Raises}

-- choice: the width of a word's number of choices is at most 32
module _ (b : ℕ → ℕ) (n wall at w : ℕ) (small : n < 2 ^ 32) (x : w ≡ width n) (r : Read) (e : read_is r ≡ fixed32 b wall at w) where
  choice-is : read_is r ≡ fixed_at b wall at (width n)
  choice-is = rw x at e ∙ wide b wall at (width n) (width-under n 32 (omega arith))

  pub way-choice-refuse : (m : Refusal) → r ≡ Err m → read_is (Err m) ≡ choice_at b n wall at
  unfolding choice_at read_is
  way-choice-refuse m f = sym (then-fault _ (read-refuse choice-is f))

  module _ (v : ℕ) (p : Bits) (f : r ≡ Ok (v, p)) where
    pub way-choice-in : v < n → read_is (Ok (v, p)) ≡ choice_at b n wall at
    unfolding choice_at read_is
    way-choice-in h = sym (then _ (read-value choice-is f) (under-then no_such_code (omega arith) refl))

    pub way-choice-out : n ≤ v → read_is (Err refusal.NoSuchCode) ≡ choice_at b n wall at
    unfolding choice_at read_is
    way-choice-out h = sym (then _ (read-value choice-is f) (under-fault no_such_code _ (omega arith)))

pub ruleset choice_ways = (way-choice-refuse, way-choice-in, way-choice-out)

-- number
module _ (b : ℕ → ℕ) (most wall at : ℕ) (r : Read) (e : read_is r ≡ read5 b wall at) where
  pub way-number-refuse : (m : Refusal) → r ≡ Err m → read_is (Err m) ≡ number_at b most wall at
  unfolding number_at read_is
  way-number-refuse m f = sym (then-fault _ (read-refuse e f))

  module _ (v : ℕ) (p : Bits) (f : r ≡ Ok (v, p)) where
    pub way-number-in : v ≤ most → read_is (Ok (v, p)) ≡ number_at b most wall at
    unfolding number_at read_is
    way-number-in h = sym (then _ (read-value e f) (under-then too_large h refl))

    pub way-number-out : most < v → read_is (Err refusal.TooLarge) ≡ number_at b most wall at
    unfolding number_at read_is
    way-number-out h = sym (then _ (read-value e f) (under-fault too_large _ h))

pub ruleset number_ways = (way-number-refuse, way-number-in, way-number-out)

-- inner
module _ (b : ℕ → ℕ) (wall at : ℕ) (i : inner_t.Inner) (r : Read) (k : ℕ) where
  pub way-inner-choice : i ≡ iv.Choice k → read_is r ≡ choice_at b k wall at → read_is r ≡ code_at (inner_is i) b wall at
  unfolding code_at inner_is
  way-inner-choice w e = e ∙ sym (rw w)

  pub way-inner-five : i ≡ iv.Five k → read_is r ≡ number_at b k wall at → read_is r ≡ code_at (inner_is i) b wall at
  unfolding code_at inner_is
  way-inner-five w e = e ∙ sym (rw w)

pub ruleset inner_ways = (way-inner-choice, way-inner-five)

-- join
module _ (sign m : ℕ) (q : Bits) where
  pub way-join-plus : (w : ℕ) → sign ≡ 0 → m < 2147483648 → w ≡ word_of 0 m → read_is (Ok (w, q)) ≡ signed_of sign m q.0
  unfolding signed_of read_is
  way-join-plus w z h e = rw (z, e) (sym (under-then too_large (omega arith) refl))

  pub way-join-over : sign ≡ 0 → 2147483648 ≤ m → read_is (Err refusal.TooLarge) ≡ signed_of sign m q.0
  unfolding signed_of read_is
  way-join-over z h = rw z (sym (under-fault too_large _ (omega arith)))

  module _ (z : sign ≡ 0 → ⊥) where
    minus_is : sign ≡ suc (sign - 1)
    minus_is = omega arith

    pub way-join-under : 2147483648 < m → read_is (Err refusal.TooLarge) ≡ signed_of sign m q.0
    unfolding signed_of read_is
    way-join-under h = rw minus_is (sym (under-fault too_large _ h))

    pub way-join-zero : m ≤ 2147483648 → m ≡ 0 → read_is (Err refusal.MinusZero) ≡ signed_of sign m q.0
    unfolding signed_of read_is
    way-join-zero h k = rw minus_is (sym (under-then too_large h (under-fault minus_zero _ (omega arith))))

    pub way-join-minus : (w : ℕ) → m ≤ 2147483648 → (m ≡ 0 → ⊥) → w ≡ word_of 1 m → read_is (Ok (w, q)) ≡ signed_of sign m q.0
    unfolding signed_of read_is
    way-join-minus w h k e = rw (minus_is, e) (sym (under-then too_large h (under-then minus_zero (omega arith) refl)))

pub ruleset join_ways = (way-join-plus, way-join-over, way-join-under, way-join-zero, way-join-minus)

-- signed
module _ (b : ℕ → ℕ) (wall at : ℕ) (r : Read) (e : read_is r ≡ choice_at b 2 wall at) where
  pub way-signed-refuse : (n : Refusal) → r ≡ Err n → read_is (Err n) ≡ code_at signed b wall at
  unfolding code_at read_is
  way-signed-refuse n f = sym (then-fault _ (read-refuse e f))

  module _ (s : ℕ) (p : Bits) (f : r ≡ Ok (s, p)) (x : Read) (g : read_is x ≡ read5 b wall p.0) where
    pub way-signed-cut : (n : Refusal) → x ≡ Err n → read_is (Err n) ≡ code_at signed b wall at
    unfolding code_at read_is
    way-signed-cut n h = sym (then _ (read-value e f) (then-fault _ (read-refuse g h)))

    pub way-signed-read : (m : ℕ) (q : Bits) (y : Read) → x ≡ Ok (m, q) → read_is y ≡ signed_of s m q.0 → read_is y ≡ code_at signed b wall at
    unfolding code_at
    way-signed-read m q y h k = k ∙ sym (then _ (read-value e f) (then _ (read-value g h) refl))

pub ruleset signed_ways = (way-signed-refuse, way-signed-cut, way-signed-read)

-- some
module _ (b : ℕ → ℕ) (wall at : ℕ) (c : Code) (r : Read) (e : read_is r ≡ choice_at b 2 wall at) where
  pub way-some-refuse : (n : Refusal) → r ≡ Err n → read_is (Err n) ≡ code_at (some c) b wall at
  unfolding code_at read_is
  way-some-refuse n f = sym (then-fault _ (read-refuse e f))

  module _ (s : ℕ) (p : Bits) (f : r ≡ Ok (s, p)) where
    pub way-some-none : s ≡ 0 → read_is (Ok (0, p)) ≡ code_at (some c) b wall at
    unfolding code_at read_is some_of
    way-some-none z = sym (then _ (read-value e f) (rw z))

    module _ (z : s ≡ 0 → ⊥) (x : Read) (g : read_is x ≡ code_at c b wall p.0) where
      some_is : s ≡ suc (s - 1)
      some_is = omega arith

      pub way-some-cut : (n : Refusal) → x ≡ Err n → read_is (Err n) ≡ code_at (some c) b wall at
      unfolding code_at read_is some_of
      way-some-cut n h = sym (then _ (read-value e f) (rw some_is (then-fault _ (read-refuse g h))))

      module _ (v : ℕ) (q : Bits) (h : x ≡ Ok (v, q)) where
        pub way-some-zero : v ≡ 0 → read_is (Err refusal.NoSuchCode) ≡ code_at (some c) b wall at
        unfolding code_at read_is some_of
        way-some-zero k = sym (then _ (read-value e f) (rw some_is (then _ (read-value g h) (under-fault no_such_code _ (omega arith)))))

        pub way-some-read : (v ≡ 0 → ⊥) → read_is (Ok (v, q)) ≡ code_at (some c) b wall at
        unfolding code_at read_is some_of
        way-some-read k = sym (then _ (read-value e f) (rw some_is (then _ (read-value g h) (under-then no_such_code (omega arith) refl))))

pub ruleset some_ways = (way-some-refuse, way-some-none, way-some-cut, way-some-zero, way-some-read)

-- shifted
module _ (b : ℕ → ℕ) (wall at lo : ℕ) (c : Code) (r : Read) (e : read_is r ≡ code_at c b wall at) where
  pub way-shifted-refuse : (n : Refusal) → r ≡ Err n → read_is (Err n) ≡ code_at (shifted lo c) b wall at
  unfolding code_at read_is
  way-shifted-refuse n f = sym (then-fault _ (read-refuse e f))

  pub way-shifted-read : (k : ℕ) (p : Bits) (w : ℕ) → r ≡ Ok (k, p) → k < 2 ^ 32 → w ≡ up lo k → read_is (Ok (w, p)) ≡ code_at (shifted lo c) b wall at
  unfolding code_at read_is
  way-shifted-read k p w f h g = sym (then _ (read-value e f) (under-then too_large (omega arith) (rw g)))

-- raise
module _ (lo : ℕ) (r : Read) where
  pub raise-refuse : (n : Refusal) → r ≡ Err n → Raises lo r (Err n)
  raise-refuse n f = record { says = λ c b wall at e. way-shifted-refuse b wall at lo c r e n f }

  pub raise-read : (k : ℕ) (p : Bits) (w : ℕ) → r ≡ Ok (k, p) → k < 2 ^ 32 → w ≡ up lo k → Raises lo r (Ok (w, p))
  raise-read k p w f h g = record { says = λ c b wall at e. way-shifted-read b wall at lo c r e k p w f h g }

pub ruleset raise_ways = (raise-refuse, raise-read)

-- code
module _ (b : ℕ → ℕ) (wall at : ℕ) (c : code_t.Code) (r : Read) where
  pub way-code-plain : (i : inner_t.Inner) → c ≡ cv.Plain i → read_is r ≡ code_at (inner_is i) b wall at → read_is r ≡ code_at (code_is c) b wall at
  unfolding code_is
  way-code-plain i w e = e ∙ sym (rw w)

  pub way-code-signed : c ≡ cv.Signed → read_is r ≡ code_at signed b wall at → read_is r ≡ code_at (code_is c) b wall at
  unfolding code_is
  way-code-signed w e = e ∙ sym (rw w)

  pub way-code-some : (i : inner_t.Inner) → c ≡ cv.Some i → read_is r ≡ code_at (some (inner_is i)) b wall at → read_is r ≡ code_at (code_is c) b wall at
  unfolding code_is
  way-code-some i w e = e ∙ sym (rw w)

  pub way-code-shifted : (lo : ℕ) (i : inner_t.Inner) → c ≡ cv.Shifted lo i → read_is r ≡ code_at (shifted lo (inner_is i)) b wall at → read_is r ≡ code_at (code_is c) b wall at
  unfolding code_is
  way-code-shifted lo i w e = e ∙ sym (rw w)

-- 32 bits name one of 2^32: none of them names nothing
word-all : (s : List ℕ) (wall at : ℕ) → fixed_at (bit_at s) wall at 32 ≡ choice_at (bit_at s) (2 ^ 32) wall at
unfolding choice_at
word-all s wall at = rw (width-pow 32) (elim (dec_le (at + 32) wall) [
  | yes h ↦
      let f = fixed_in (bit_at s) wall at 32 h in
      f ∙ sym (then _ f (under-then no_such_code (omega (arith, num-under (bit_at s) (bit-lt s) at {w = 32} {k = 32} (omega arith))) refl))
  | no h ↦
      let f = fixed-past (bit_at s) wall at 32 (omega arith) in
      f ∙ sym (then-fault _ f)
])

pub way-code-word : (s : List ℕ) (wall at : ℕ) (c : code_t.Code) (r : Read) → c ≡ cv.Word → read_is r ≡ fixed32 (bit_at s) wall at 32 → read_is r ≡ code_at (code_is c) (bit_at s) wall at
unfolding code_is code_at
way-code-word s wall at c r w e = e ∙ wide (bit_at s) wall at 32 (omega arith) ∙ word-all s wall at ∙ sym (rw w)

pub ruleset code_ways = (way-code-plain, way-code-word, way-code-signed, way-code-some, way-code-shifted)

-- no refusal has the number 0
named : (f : Refusal) → number_of f ≡ 0 → ⊥
named refusal.Table e = absurd (omega arith)
named refusal.Root e = absurd (omega arith)
named refusal.PayloadSize e = absurd (omega arith)
named refusal.ModeByte e = absurd (omega arith)
named refusal.PastEnd e = absurd (omega arith)
named refusal.Depth e = absurd (omega arith)
named refusal.EventRoom e = absurd (omega arith)
named refusal.TextRoom e = absurd (omega arith)
named refusal.NotHeld e = absurd (omega arith)
named refusal.Length e = absurd (omega arith)
named refusal.ContentShort e = absurd (omega arith)
named refusal.NotShortest e = absurd (omega arith)
named refusal.TooLarge e = absurd (omega arith)
named refusal.NoSuchCode e = absurd (omega arith)
named refusal.MinusZero e = absurd (omega arith)
named refusal.NotUtf8 e = absurd (omega arith)
named refusal.LeftOver e = absurd (omega arith)
named refusal.NoReading e = absurd (omega arith)
named refusal.Blank e = absurd (omega arith)
named refusal.OutsideRow e = absurd (omega arith)
named refusal.PayloadRoom e = absurd (omega arith)
named refusal.WriteMode e = absurd (omega arith)
named refusal.TextBytes e = absurd (omega arith)
named refusal.AreaSize e = absurd (omega arith)
named refusal.Control e = absurd (omega arith)
named refusal.Party e = absurd (omega arith)
named refusal.ReservedBits e = absurd (omega arith)
named refusal.NoSchemas e = absurd (omega arith)
named refusal.ManySchemas e = absurd (omega arith)
named refusal.BlockCheck e = absurd (omega arith)
named refusal.BlockTurn e = absurd (omega arith)
named refusal.BlockLayout e = absurd (omega arith)
named refusal.AdvancedFlag e = absurd (omega arith)

-- text_after
module _ (b : ℕ → ℕ) (wall n p : ℕ) where
  pub way-text-before : wall < p → value_is b (Err refusal.PastEnd) ≡ words_of text (text_of b wall n p)
  unfolding text_of value_is first_word second_word
  way-text-before h = sym (words-fault text (under-fault past_end _ (omega arith)))

  module _ (h : p ≤ wall) where
    pub way-text-past : wall - p < 8 * n → value_is b (Err refusal.PastEnd) ≡ words_of text (text_of b wall n p)
    unfolding text_of value_is first_word second_word
    way-text-past k = sym (words-fault text (under-fault past_end _ (omega arith)))

    module _ (k : 8 * n ≤ wall - p) (w : Result Unit Refusal) (e : answered w ≡ text_fault (bytes_at b p n)) where
      pub way-text-wrong : (f : Refusal) → w ≡ Err f → value_is b (Err f) ≡ words_of text (text_of b wall n p)
      unfolding text_of value_is first_word second_word
      way-text-wrong f l =
          let z : number_of f ≡ text_fault (bytes_at b p n) = sym (ap answered l) ∙ e in
          rw z (sym (words-fault text (under-then past_end (omega arith) (passes-fault _ (λ y. named f (z ∙ y))))))

      pub way-text-read : (m : Bytes) (q : Bits) → w ≡ Ok tt → m.0 ≡ n → q.0 ≡ p + 8 * n → value_is b (Ok (vv.Read n m q)) ≡ words_of text (text_of b wall n p)
      unfolding text_of value_is first_word second_word
      way-text-read m q l f g =
          let back : p + 8 * n - 8 * n ≡ p = omega arith in
          let z : text_fault (bytes_at b p n) ≡ 0 = sym e ∙ ap answered l in
          rw (f, g, back) (sym (words-got text (under-then past_end (omega arith) (passes_then z refl))))

pub ruleset text_ways = (way-text-before, way-text-past, way-text-wrong, way-text-read)

-- simple
module _ (s : List ℕ) (wall at : ℕ) (f : form_t.Form) where
  module _ (c : code_t.Code) (w : f ≡ fv.Number c) (r : Read) (e : read_is r ≡ code_at (code_is c) (bit_at s) wall at) where
    pub way-simple-refuse : (n : Refusal) → r ≡ Err n → value_is (bit_at s) (Err n) ≡ words_of (form_is f) (simple_at (form_is f) (bit_at s) wall at)
    unfolding value_is simple_at form_is
    way-simple-refuse n g = rw w (sym (words-fault (plain (code_is c)) (then-fault _ (read-refuse e g))))

    module _ (v : ℕ) (p : Bits) (g : r ≡ Ok (v, p)) where
      pub way-simple-read : (x : value_t.Value) → x ≡ vv.Read v (record { 0 = 0 }) p → value_is (bit_at s) (Ok x) ≡ words_of (form_is f) (simple_at (form_is f) (bit_at s) wall at)
      unfolding value_is simple_at form_is first_word second_word
      way-simple-read x z = rw (z, w, bytes-none (bit_at s) (p.0 - 8 * 0)) (sym (words-got (plain (code_is c)) (then _ (read-value e g) refl)))

  module _ (w : f ≡ fv.Text) (r : Read) (e : read_is r ≡ number_at (bit_at s) most_text wall at) where
    pub way-simple-count : (n : Refusal) → r ≡ Err n → value_is (bit_at s) (Err n) ≡ words_of (form_is f) (simple_at (form_is f) (bit_at s) wall at)
    unfolding value_is simple_at form_is code_at
    way-simple-count n g = rw w (sym (words-fault text (then-fault _ (read-refuse e g))))

    pub way-simple-text : (n : ℕ) (p : Bits) (x : Valued) → r ≡ Ok (n, p) → value_is (bit_at s) x ≡ words_of text (text_of (bit_at s) wall n p.0) → value_is (bit_at s) x ≡ words_of (form_is f) (simple_at (form_is f) (bit_at s) wall at)
    unfolding simple_at form_is code_at
    way-simple-text n p x g h = h ∙ sym (rw w (ap (words_of text) (then _ (read-value e g) refl)))

  pub way-simple-dated : (clock : Bool) (x : Valued) → f ≡ fv.Dated clock → value_is (bit_at s) x ≡ words_of (dated (stamp clock)) (simple_at (dated (stamp clock)) (bit_at s) wall at)
      → value_is (bit_at s) x ≡ words_of (form_is f) (simple_at (form_is f) (bit_at s) wall at)
  unfolding form_is
  way-simple-dated clock x w h = h ∙ sym (rw w)

-- a text's count is at most most_text
module _ (s : List ℕ) (wall at : ℕ) (r : Read) (e : read_is r ≡ number_at (bit_at s) most_text wall at) (n : ℕ) (p : Bits) (g : r ≡ Ok (n, p)) where
  count-found : Stands (bit_at s) (HasCode (five most_text) n) (bits_of (five most_text) n) wall at p.0
  unfolding code_at
  count-found = ((code-lawful (five most_text)).found (bit_at s) (bit-lt s) wall at).says (n, p.0) (read-value e g)

  pub count_small : n ≤ most_text
  unfolding HasCode
  count_small = omega (arith, count-found.fits)

pub ruleset simple_ways = (way-simple-refuse, way-simple-read, way-simple-count, way-simple-text, way-simple-dated, count_small)
