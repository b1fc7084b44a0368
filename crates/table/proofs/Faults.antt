-- What the verdict says of a table: right exactly where the length and every word are right; wrong exactly at the first word at
-- fault, or at the number of words given. So two verdicts that these laws allow are equal.
use Prim.Native.Nat.{ℕ, zero, suc, ◌+◌, ◌-◌, ◌≤◌, ◌<◌}
use mathlib.Core.Path.{◌≡◌, refl, sym, ap, subst, ◌∙◌}
use mathlib.Core.List.{List, ◌++◌}
use mathlib.Core.Bool.{Bool, true, false, true≢false}
use native.Mathlib.Omega.{arith}
use borrow.Author.Tests.{le-ltb}
use lib.ListN.{length, get_or, get_or-append}
use lib.Seq.{get_or-append-add}
use Rattle.numbers.specs.Limit.{most_types, most_attributes, most_particles}
use Rattle.signed.proofs.Laws.{ordered}
use Rattle.table.specs.Words.{plain_form, cast_form, word_at, types_in, attributes_in, particles_in}
use Rattle.table.specs.First.{Verdict, first, judge, ◌then◌}
use Rattle.table.specs.First.Verdict.{right, wrong}
use Rattle.table.proofs.FirstLaws.{then-right, right-every, every-at, wrong-fails}
use Rattle.table.specs.Valid.{given, header_words, row_words, form_words, length_right, verdict, verdict_from, Sized, right_at}
use Rattle.table.proofs.Laws.{length-says, length-told}
use Rattle.table.proofs.Lines.{words-length}
use Rattle.table.specs.Faults.{Whole, Fault, Says, at_word, at_length}

module _ (l : List ℕ) where
  abbrev T : ℕ
  T = types_in l

  abbrev A : ℕ
  A = attributes_in l

  abbrev P : ℕ
  P = particles_in l

  abbrev R : List Bool
  R = row_words (word_at l) T A P ++ form_words (word_at l) T A P

  -- the header's tests come first
  header_at : (i : ℕ) → i < 4 → right_at l i ≡ get_or (header_words l) i true
  unfolding right_at header_words
  header_at i h = get_or-append (header_words l) R true i (omega arith)

  row_at : (j : ℕ) → right_at l (4 + j) ≡ get_or R j true
  unfolding right_at header_words
  row_at j = get_or-append-add (header_words l) R j true

  given-false : (i least most : ℕ) → given l i least most ≡ false → i < length l
  unfolding given
  given-false i least most e = ordered i (length l) (λ h. h) (λ h. absurd (true≢false (sym (rw (le-ltb _ _ h)) ∙ e)))

  header-given : (i : ℕ) → get_or (header_words l) i true ≡ false → i < length l
  unfolding header_words
  header-given zero e = given-false 0 plain_form cast_form e
  header-given (suc zero) e = given-false 1 1 most_types e
  header-given (suc (suc zero)) e = given-false 2 0 most_attributes e
  header-given (suc (suc (suc zero))) e = given-false 3 0 most_particles e
  header-given (suc (suc (suc (suc i)))) e = absurd (true≢false e)

  abbrev Said : Type 0
  Said = (v : Verdict) × (verdict l ≡ v) × Says l v

  header-wrong : (k : ℕ) → first 0 (header_words l) ≡ wrong k → Said
  unfolding verdict verdict_from ◌then◌ header_words
  header-wrong k e =
      let f = wrong-fails 0 (header_words l) k e in
      let k<4 : k < 4 = omega (arith, f.1.inside, f.1.place) in
      let same : f.0 ≡ k = omega (arith, f.1.place) in
      let fails : get_or (header_words l) k true ≡ false = rw same at f.1.fails in
      let before : (j : ℕ) → j < k → right_at l j ≡ true = λ j h. header_at j (omega arith) ∙ f.1.before j (omega arith) in
      (wrong k, rw e, at_word (header-given k fails) (λ h. absurd (omega arith)) (header_at k k<4 ∙ fails) before)

  module _ (e : first 0 (header_words l) ≡ right) where
    header-right : (j : ℕ) → j < 4 → right_at l j ≡ true
    header-right j h = header_at j h ∙ every-at (header_words l) (right-every 0 (header_words l) e) j

    length-wrong : (Sized l → ⊥) → verdict l ≡ wrong (length l) → Said
    length-wrong n f = (wrong (length l), f, at_length refl n header-right)

    module _ (s : Sized l) where
      word-right : (i j : ℕ) → i ≡ 4 + j → get_or R j true ≡ true → right_at l i ≡ true
      word-right i j f g = rw f (row_at j ∙ g)

      rows_right : verdict l ≡ right → first 4 R ≡ right → Said
      rows_right f g =
          let past : (i : ℕ) → 4 ≤ i → right_at l i ≡ true = λ i h. word-right i (i - 4) (omega arith) (every-at R (right-every 4 R g) (i - 4)) in
          (right, f, record { sized = s; words = λ i h. ordered i 4 (header-right i) (past i) })

      rows-wrong : (k : ℕ) → verdict l ≡ wrong k → first 4 R ≡ wrong k → Said
      rows-wrong k f g =
          let b = wrong-fails 4 R k g in
          let inside : k < length l = omega (arith, b.1.place, b.1.inside, s.by_form, words-length (word_at l) T A P) in
          let fails : right_at l k ≡ false = rw b.1.place (row_at b.0 ∙ b.1.fails) in
          let past : (j : ℕ) → j < k → 4 ≤ j → right_at l j ≡ true = λ j h i. word-right j (j - 4) (omega arith) (b.1.before (j - 4) (omega (arith, b.1.place))) in
          (wrong k, f, at_word inside (λ h. s) fails (λ j h. ordered j 4 (header-right j) (past j h)))

    after-header : verdict l ≡ judge (length l) (length_right l T A P) then first 4 R
    unfolding verdict verdict_from
    after-header = then-right _ _ e

    by_rows : Sized l → verdict l ≡ first 4 R → (v : Verdict) → first 4 R ≡ v → Said
    by_rows s f right g = rows_right s (f ∙ g) g
    by_rows s f (wrong k) g = rows-wrong s k (f ∙ g) g

    by_length : (b : Bool) → length_right l T A P ≡ b → Said
    unfolding judge ◌then◌
    by_length true f = by_rows (length-says l f) (after-header ∙ rw f) (first 4 R) refl
    by_length false f = length-wrong (λ s. true≢false (sym (length-told l s) ∙ f)) (after-header ∙ rw f)

  by-header : (v : Verdict) → first 0 (header_words l) ≡ v → Said
  by-header right e = by_length e (length_right l T A P) refl
  by-header (wrong k) e = header-wrong k e

  pub verdict-says : (Says l) (verdict l)
  verdict-says = let s = by-header (first 0 (header_words l)) refl in subst (Says l) (sym s.1) s.2

  -- no two verdicts can be said
  both : (i : ℕ) → right_at l i ≡ true → right_at l i ≡ false → ⊥
  both i e f = true≢false (sym e ∙ f)

  not-whole : (i : ℕ) → Whole l → Fault l i → ⊥
  not-whole i h (at_word b s f g) = both i (h.words i b) f
  not-whole i h (at_length e n g) = n h.sized

  not-before : (i j : ℕ) → Fault l i → Fault l j → i < j → ⊥
  not-before i j (at_word b s f g) (at_word b' s' f' g') h = both i (g' i h) f
  not-before i j (at_word b s f g) (at_length e n g') h = ordered i 4 (λ k. both i (g' i k) f) (λ k. n (s k))
  not-before i j (at_length e n g) (at_word b' s' f' g') h = absurd (omega arith)
  not-before i j (at_length e n g) (at_length e' n' g') h = absurd (omega arith)

  pub determined : (u v : Verdict) → Says l u → Says l v → u ≡ v
  determined right right x y = refl
  determined right (wrong j) x y = absurd (not-whole j x y)
  determined (wrong i) right x y = absurd (not-whole i y x)
  determined (wrong i) (wrong j) x y =
      ap wrong (ordered i j (λ h. absurd (not-before i j x y h)) (λ h. ordered j i (λ g. absurd (not-before j i y x g)) (λ g. omega arith)))
