-- The order of the check: the header, then the length, then the three kinds of rows, then what stands behind them.
use Prim.Native.Nat.{ℕ, ◌+◌, ◌≤◌, ◌<◌}
use mathlib.Core.Path.{◌≡◌, refl, sym, ap, ◌∙◌}
use mathlib.Core.List.{List, ◌++◌}
use mathlib.Core.Bool.{Bool, true, false}
use native.Mathlib.Omega.{arith}
use borrow.Author.Tests.{ltb-true, ltb-false, leb-true, le-leb, lt-leb, eq-eqb, ne_eqb}
use lib.Dec.{ltb, leb}
use lib.ListN.{length, get_or-eq_default}
use Rattle.numbers.specs.Limit.{most_types, most_derivations, most_substitutes, most_table_words}
use Rattle.std.specs.Prelude.{Ok, Err}
use Rattle.table.specs.Words.{cast_form, size_of, derived_at, row_pair_at, word_at, types_in, attributes_in, particles_in}
use Rattle.table.specs.Stamps.{Stamped}
use Rattle.table.specs.First.{Verdict, first, judge, ◌then◌}
use Rattle.table.specs.First.Verdict.{right, wrong}
use Rattle.table.proofs.FirstLaws.{then-right, then-wrong, right-every, both_true}
use Rattle.table.specs.Valid.{given, header_words, row_words, count_words, derived_row, derived_words, cast_words, form_words, form_size, length_right, derived_verdict, substitutes_verdict, type_pairs_verdict, row_pairs_verdict, verdict_from, verdict}
use Rattle.table.proofs.Lines.{types_verdict, attributes_verdict, particles_verdict, rows-in-parts, words-in-parts, cast-in-parts, rows-every, form-words-length}
use Rattle.table.specs.Views.{Checked, verdict_is}
use Rattle.table.specs.declared.answers.Flaw.{Flaw}

module _ (w : ℕ → ℕ) (T A P : ℕ) where
  -- through the three kinds of rows
  module _ (t : Checked) (e : verdict_is t ≡ types_verdict w T A P) where
    pub types-wrong : (k : Flaw) → t ≡ Err k → wrong k.0 ≡ first 4 (row_words w T A P)
    types-wrong k x = sym (rows-in-parts w T A P ∙ then-wrong _ _ k.0 (sym e ∙ ap verdict_is x))

    module _ (x : t ≡ Ok tt) (a : Checked) (f : verdict_is a ≡ attributes_verdict w T A P) where
      after-types : first 4 (row_words w T A P) ≡ attributes_verdict w T A P then particles_verdict w T A P
      after-types = rows-in-parts w T A P ∙ then-right _ _ (sym e ∙ ap verdict_is x)

      pub attributes-wrong : (k : Flaw) → a ≡ Err k → wrong k.0 ≡ first 4 (row_words w T A P)
      attributes-wrong k y = sym (after-types ∙ then-wrong _ _ k.0 (sym f ∙ ap verdict_is y))

      pub particles-last : a ≡ Ok tt → (v : Verdict) → v ≡ particles_verdict w T A P → v ≡ first 4 (row_words w T A P)
      particles-last y v g = g ∙ sym (after-types ∙ then-right _ _ (sym f ∙ ap verdict_is y))

-- the rows, then what stands behind them
module _ (w : ℕ → ℕ) (T A P : ℕ) (r : Checked) (e : verdict_is r ≡ first 4 (row_words w T A P)) where
  pub rows-wrong : (k : Flaw) → r ≡ Err k → wrong k.0 ≡ first 4 (row_words w T A P ++ form_words w T A P)
  rows-wrong k x = sym (words-in-parts w T A P ∙ then-wrong _ _ k.0 (sym e ∙ ap verdict_is x))

  pub form-last : r ≡ Ok tt → (v : Verdict) → v ≡ first (size_of T A P) (form_words w T A P) → v ≡ first 4 (row_words w T A P ++ form_words w T A P)
  form-last x v f = f ∙ sym (words-in-parts w T A P ∙ then-right _ _ (sym e ∙ ap verdict_is x))

-- by the form, which the code has read
module _ (w : ℕ → ℕ) (T A P form : ℕ) (is : form ≡ w 0) where
  pub plain_size : (end : ℕ) → end ≡ size_of T A P → (form ≡ cast_form → ⊥) → end ≡ form_size w T A P
  unfolding form_size
  plain_size end ends n = ends ∙ sym (rw (← is, ne_eqb _ _ n))

  module _ (c : form ≡ cast_form) (end entries swaps : ℕ) (ends : end ≡ size_of T A P) (d : entries ≡ w end) (s : swaps ≡ w (end + 1)) where
    pub cast-size : (size : ℕ) → size ≡ row_pair_at end entries swaps T P → size ≡ form_size w T A P
    unfolding form_size
    cast-size size p = p ∙ sym (rw (← is, eq-eqb _ _ c, ← ends, ← d, ← s))

    pub cast-form : (v : Verdict) → v ≡ first end (cast_words w T A P end entries swaps) → v ≡ first (size_of T A P) (form_words w T A P)
    unfolding form_words
    cast-form v f = f ∙ sym (rw (← is, eq-eqb _ _ c, ← ends, ← d, ← s))

pub plain_form_lem : (w : ℕ → ℕ) (T A P form : ℕ) → form ≡ w 0 → (form ≡ cast_form → ⊥) → right ≡ first (size_of T A P) (form_words w T A P)
unfolding form_words first
plain_form_lem w T A P form is n = sym (rw (← is, ne_eqb _ _ n))

pub ruleset form-ways = (plain_form_lem, cast-form)

-- through what stands behind the rows
module _ (l : List ℕ) (T A P B D S : ℕ) where
  abbrev Counts : Verdict
  Counts = first B (count_words D S)

  abbrev Cast : Verdict
  Cast = first B (cast_words (word_at l) T A P B D S)

  abbrev Derived : Verdict
  Derived = derived_verdict l T B D

  abbrev Substitutes : Verdict
  Substitutes = substitutes_verdict l T B D S

  abbrev Types : Verdict
  Types = type_pairs_verdict l B D S T

  abbrev Rows : Verdict
  Rows = row_pairs_verdict l T A B D S P

  pub entries-many : most_derivations < D → wrong B ≡ first B (cast_words (word_at l) T A P B D S)
  unfolding count_words first ◌then◌
  entries-many h = sym (cast-in-parts (word_at l) T A P B D S ∙ rw (lt-leb _ _ h))

  module _ (low : D ≤ most_derivations) where
    pub swaps-many : most_substitutes < S → wrong (B + 1) ≡ first B (cast_words (word_at l) T A P B D S)
    unfolding count_words first ◌then◌
    swaps-many h = sym (cast-in-parts (word_at l) T A P B D S ∙ rw (le-leb _ _ low, lt-leb _ _ h) (ap wrong (omega arith)))

    module _ (few : S ≤ most_substitutes) (d : Checked) (e : verdict_is d ≡ derived_verdict l T B D) where
      after-counts : Cast ≡ Derived then Substitutes then Types then Rows
      unfolding count_words first ◌then◌
      after-counts = cast-in-parts (word_at l) T A P B D S ∙ rw (le-leb _ _ low, le-leb _ _ few)

      pub entries-wrong : (k : Flaw) → d ≡ Err k → wrong k.0 ≡ first B (cast_words (word_at l) T A P B D S)
      entries-wrong k x = sym (after-counts ∙ then-wrong _ _ k.0 (sym e ∙ ap verdict_is x))

      module _ (x : d ≡ Ok tt) (s : Checked) (f : verdict_is s ≡ substitutes_verdict l T B D S) where
        after-entries : Cast ≡ Substitutes then Types then Rows
        after-entries = after-counts ∙ then-right _ _ (sym e ∙ ap verdict_is x)

        pub swaps-wrong : (k : Flaw) → s ≡ Err k → wrong k.0 ≡ first B (cast_words (word_at l) T A P B D S)
        swaps-wrong k y = sym (after-entries ∙ then-wrong _ _ k.0 (sym f ∙ ap verdict_is y))

        module _ (y : s ≡ Ok tt) (t : Checked) (g : verdict_is t ≡ type_pairs_verdict l B D S T) where
          after-swaps : Cast ≡ Types then Rows
          after-swaps = after-entries ∙ then-right _ _ (sym f ∙ ap verdict_is y)

          pub pairs-wrong : (k : Flaw) → t ≡ Err k → wrong k.0 ≡ first B (cast_words (word_at l) T A P B D S)
          pairs-wrong k z = sym (after-swaps ∙ then-wrong _ _ k.0 (sym g ∙ ap verdict_is z))

          pub pairs-last : t ≡ Ok tt → (v : Verdict) → v ≡ row_pairs_verdict l T A B D S P → v ≡ first B (cast_words (word_at l) T A P B D S)
          pairs-last z v h = h ∙ sym (after-swaps ∙ then-right _ _ (sym g ∙ ap verdict_is z))

pub ruleset cast-ways = (entries-many, swaps-many)

-- entries that are right have stamps
pub entries-stamped : (l : List ℕ) (T B D : ℕ) (d : Checked) → T ≤ most_types → verdict_is d ≡ derived_verdict l T B D → d ≡ Ok tt → Stamped l (derived_at B 0) D
unfolding derived_row derived_words
entries-stamped l T B D d few e x =
    let every = right-every _ _ (sym e ∙ ap verdict_is x) in
    record {
      each = λ k h.
          let known = ltb-true (word_at l (derived_at B k)) T (rows-every (derived_row (word_at l) T B) 0 D k every (omega arith) (omega arith)).0 in
          let q : derived_at B 0 + k ≡ derived_at B k = omega arith in
          rw q (omega arith);
    }

-- through the check
module _ (l : List ℕ) (h : Checked) (e : verdict_is h ≡ first 0 (header_words l)) where
  pub header-wrong : (k : Flaw) → h ≡ Err k → wrong k.0 ≡ verdict l
  unfolding verdict verdict_from
  header-wrong k x = sym (then-wrong _ _ k.0 (sym e ∙ ap verdict_is x))

  module _ (x : h ≡ Ok tt) (T : ℕ) (t : T ≡ types_in l) where
    -- a word that is not given is 0
    few-by : (b : Bool) → ltb 1 (length l) ≡ b → given l 1 1 most_types ≡ true → types_in l ≤ most_types
    unfolding given
    few-by true f g = leb-true _ _ (both_true (leb 1 (types_in l)) (leb (types_in l) most_types) (rw f at g)).1
    few-by false f g = let z : word_at l 1 ≡ 0 = get_or-eq_default l 0 {n = 1} (ltb-false 1 (length l) f) in omega arith

    pub types_few : T ≤ most_types
    unfolding header_words
    types_few = rw t (few-by (ltb 1 (length l)) refl (right-every 0 (header_words l) (sym e ∙ ap verdict_is x)).1.0)

    module _ (A P : ℕ) (a : A ≡ attributes_in l) (p : P ≡ particles_in l) where
      counted : verdict l
          ≡ judge (length l) (length_right l T A P) then first 4 (row_words (word_at l) T A P ++ form_words (word_at l) T A P)
      unfolding verdict verdict_from
      counted = rw (t, a, p) (then-right _ _ (sym e ∙ ap verdict_is x))

      module _ (size : ℕ) (is : size ≡ form_size (word_at l) T A P) where
        -- the rows are there where the length is that of the form
        pub rows-there : length l ≡ size → size_of T A P ≤ length l
        rows-there s = omega (arith, form-words-length (word_at l) T A P)

        pub length-wrong : (length l ≡ size → ⊥) → wrong (length l) ≡ verdict l
        unfolding judge ◌then◌ length_right
        length-wrong n = sym (counted ∙ rw (← is, ne_eqb _ _ n))

        module _ (s : length l ≡ size) where
          pub length_over : most_table_words < length l → wrong (length l) ≡ verdict l
          unfolding judge ◌then◌ length_right
          length_over h = sym (counted ∙ rw (← is, eq-eqb _ _ s, lt-leb _ _ h))

          pub length-right : length l ≤ most_table_words → (v : Verdict) → v ≡ first 4 (row_words (word_at l) T A P ++ form_words (word_at l) T A P) → v ≡ verdict l
          unfolding judge ◌then◌ length_right
          length-right h v f = f ∙ sym (counted ∙ rw (← is, eq-eqb _ _ s, le-leb _ _ h))
