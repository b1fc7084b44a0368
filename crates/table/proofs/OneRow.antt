-- One row: its words as the code has read them, and its verdict from that of the words, which count from 0.
use Prim.Native.Nat.{ℕ, ◌+◌, ◌<◌}
use mathlib.Core.Path.{◌≡◌, sym, ap, ◌∙◌}
use mathlib.Core.List.{List, ◌++◌}
use mathlib.Core.Bool.{Bool}
use native.Mathlib.Omega.{arith}
use lib.ListN.{length}
use Rattle.std.specs.Prelude.{Ok, Err, IfErr}
use Rattle.table.specs.Words.{type_at, attribute_at, particle_at, word_at}
use Rattle.table.specs.First.{Verdict, first, moved}
use Rattle.table.specs.First.Verdict.{wrong}
use Rattle.table.proofs.FirstLaws.{first-append, first_below, moved-first, then-right, then-wrong}
use Rattle.table.specs.Valid.{front_words, content_words, attribute_words, particle_words, type_row, attribute_row, particle_row, type_verdict, attribute_verdict, particle_verdict}
use Rattle.table.proofs.Lines.{content-length, particle-length}
use Rattle.table.specs.Views.{Checked, verdict_is}
use Rattle.table.specs.Runs.{RunAt, type_words}
use Rattle.table.specs.declared.answers.Flaw.{Flaw}

-- a place that is named lies within the tests, of which there are fewer than eight
pub place-small : (xs : List Bool) → length xs < 8 → (r : Checked) → verdict_is r ≡ first 0 xs → IfErr r (λ e. e.0 < 8)
place-small xs h (Ok u) e = tt
place-small xs h (Err k) e = omega (arith, (first_below 0 xs k.0 (sym e)).1)

-- a row's verdict from that of its words, which count from 0
pub row-is : (b : ℕ) (xs ys : List Bool) → xs ≡ ys → (v : Verdict) → v ≡ first 0 xs → moved b v ≡ first b ys
row-is b xs ys same v e = rw (e, same) (moved-first b ys)

-- tests in two parts
module _ (i : ℕ) (xs ys : List Bool) (r : Checked) (e : verdict_is r ≡ first i xs) where
  pub part-wrong : (k : Flaw) → r ≡ Err k → wrong k.0 ≡ first i (xs ++ ys)
  part-wrong k w = sym (first-append i xs ys ∙ then-wrong _ _ k.0 (sym e ∙ ap verdict_is w))

  pub part_right : (v : Verdict) → r ≡ Ok tt → v ≡ first (i + length xs) ys → v ≡ first i (xs ++ ys)
  part_right v w f = f ∙ sym (first-append i xs ys ∙ then-right _ _ (sym e ∙ ap verdict_is w))

-- a type row's words
module _ (A P : ℕ) (w : List ℕ) (h : Checked) (f : verdict_is h ≡ first 0 (front_words A (word_at w 0) (word_at w 1) (word_at w 2) (word_at w 3))) where
  pub front-wrong : (k : Flaw) → h ≡ Err k → wrong k.0 ≡ first 0 (type_words A P w)
  unfolding type_words
  front-wrong k x = part-wrong 0 _ _ h f k x

  pub content-last : h ≡ Ok tt → (v : Verdict) → v ≡ first 4 (content_words P (word_at w 1) (word_at w 4) (word_at w 5) (word_at w 6)) → v ≡ first 0 (type_words A P w)
  unfolding type_words front_words
  content-last x v g = part_right 0 _ _ h f v x g

pub type-words-length : (A P : ℕ) (w : List ℕ) → length (type_words A P w) ≡ 7
unfolding type_words front_words
type-words-length A P w = omega (arith, content-length P (word_at w 1) (word_at w 4) (word_at w 5) (word_at w 6))

-- a word of those read
module _ {l : List ℕ} {i n : ℕ} {w : List ℕ} (words : RunAt l i n w) where
  pub read : (k j : ℕ) → k < n → j ≡ i + k → word_at w k ≡ word_at l j
  read k j h e = words.each k h ∙ ap (word_at l) (sym e)

-- an attribute row that begins at i, and its type's row at j
module _ (l : List ℕ) (T a i j : ℕ) (w v : List ℕ) (at : i ≡ attribute_at T a) (words : RunAt l i 3 w) (at' : j ≡ type_at (word_at w 2)) (words' : RunAt l j 4 v)
    (r : Checked) (e : verdict_is r ≡ first 0 (attribute_words T (word_at w 0) (word_at w 1) (word_at w 2) (word_at v 1) (word_at v 3))) where
  attribute-words : attribute_words T (word_at w 0) (word_at w 1) (word_at w 2) (word_at v 1) (word_at v 3) ≡ attribute_row (word_at l) T a
  unfolding attribute_row
  attribute-words =
      rw (
        read words' 1 (j + 1) (omega arith) (omega arith),
        read words' 3 (j + 3) (omega arith) (omega arith),
        at',
        read words 0 (attribute_at T a) (omega arith) (omega arith),
        read words 1 (attribute_at T a + 1) (omega arith) (omega arith),
        read words 2 (attribute_at T a + 2) (omega arith) (omega arith),
      )

  pub attribute-small : IfErr r (λ e. e.0 < 8)
  unfolding attribute_words
  attribute-small = place-small _ (omega arith) r e

  pub attribute-row-is : (v : Verdict) → v ≡ moved i (verdict_is r) → v ≡ attribute_verdict l T a
  attribute-row-is v f = f ∙ rw at (row-is (attribute_at T a) _ _ attribute-words _ e)

-- a particle row that begins at i
module _ (l : List ℕ) (T A P p i : ℕ) (w : List ℕ) (at : i ≡ particle_at T A p) (words : RunAt l i 4 w) where
  pub particle-row-words : particle_words T P p (word_at w 0) (word_at w 1) (word_at w 2) (word_at w 3) ≡ particle_row (word_at l) T A P p
  unfolding particle_row
  particle-row-words =
      rw (
        read words 0 (particle_at T A p) (omega arith) (omega arith),
        read words 1 (particle_at T A p + 1) (omega arith) (omega arith),
        read words 2 (particle_at T A p + 2) (omega arith) (omega arith),
        read words 3 (particle_at T A p + 3) (omega arith) (omega arith),
      )

  module _ (r : Checked) (e : verdict_is r ≡ first 0 (particle_words T P p (word_at w 0) (word_at w 1) (word_at w 2) (word_at w 3))) where
    pub particle-small : IfErr r (λ e. e.0 < 8)
    particle-small = place-small _ (omega (arith, particle-length T P p (word_at w 0) (word_at w 1) (word_at w 2) (word_at w 3))) r e

    pub particle-row-is : (v : Verdict) → v ≡ moved i (verdict_is r) → v ≡ particle_verdict l T A P p
    particle-row-is v f = f ∙ rw at (row-is (particle_at T A p) _ _ particle-row-words _ e)

-- a type row that begins at i
module _ (l : List ℕ) (A P t i : ℕ) (w : List ℕ) (at : i ≡ type_at t) (words : RunAt l i 7 w) (r : Checked) (e : verdict_is r ≡ first 0 (type_words A P w)) where
  type-row-words : type_words A P w ≡ type_row (word_at l) A P t
  unfolding type_words type_row
  type-row-words =
      rw (
        read words 0 (type_at t) (omega arith) (omega arith),
        read words 1 (type_at t + 1) (omega arith) (omega arith),
        read words 2 (type_at t + 2) (omega arith) (omega arith),
        read words 3 (type_at t + 3) (omega arith) (omega arith),
        read words 4 (type_at t + 4) (omega arith) (omega arith),
        read words 5 (type_at t + 5) (omega arith) (omega arith),
        read words 6 (type_at t + 6) (omega arith) (omega arith),
      )

  pub type-small : IfErr r (λ e. e.0 < 8)
  type-small = place-small _ (omega (arith, type-words-length A P w)) r e

  pub type-row-is : (v : Verdict) → v ≡ moved i (verdict_is r) → v ≡ type_verdict l A P t
  type-row-is v f = f ∙ rw at (row-is (type_at t) _ _ type-row-words _ e)
