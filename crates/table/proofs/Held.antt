-- Held marks bear neither on validity nor on what the rows say: two lists alike but at their held words have one table and, where
-- these words have marks of parties alone, one verdict.
use Prim.Native.Nat.{ℕ, zero, suc, ◌+◌, ◌≤◌, ◌<◌}
use mathlib.Core.Path.{◌≡◌, refl, sym, ap, ap₂, ◌∙◌}
use mathlib.Core.List.{List, ◌++◌}
use mathlib.Core.Bool.{Bool}
use native.Mathlib.Omega.{arith}
use borrow.Author.Tests.{le-leb}
use lib.Dec.{leb}
use lib.ListN.{length}
use Rattle.numbers.specs.Limit.{most_types, most_attributes, most_particles, most_held}
use Rattle.table.specs.Words.{plain_form, cast_form, type_at, attribute_at, particle_at, derived_at, substitute_at, type_pair_at, row_pair_at, word_at, types_in, attributes_in, particles_in, rows_end, derivations_in, substitutes_in}
use Rattle.table.specs.Valid.{given, header_words, front_words, rows, type_row, attribute_row, particle_row, row_words, words_from, derived_row, substitute_row, type_pair_row, row_pair_row, cast_words, form_words, form_size, length_right, verdict, verdict_from}
use Rattle.table.specs.Rows.{content_of, row_at, row_of, attribute_of, attributes_from, first_of, count_of, attributes_of, substitutes_from, substitutes_of, derived_from, derived_of, table_of}
use Rattle.table.specs.Held.{Alike, Marks}

rows_same : (f g : ℕ → List Bool) (i n : ℕ) → ((k : ℕ) → k < i + n → f k ≡ g k) → rows f i n ≡ rows g i n
unfolding rows
rows_same f g i zero h = refl
rows_same f g i (suc n) h = ap₂ ◌++◌ (h i (omega arith)) (rows_same f g (suc i) n (λ k b. h k (omega arith)))

module _ (l l' : List ℕ) (alike : Alike l l') where
  abbrev w : ℕ → ℕ
  w i = word_at l i

  abbrev w' : ℕ → ℕ
  w' i = word_at l' i

  abbrev T : ℕ
  T = types_in l

  abbrev A : ℕ
  A = attributes_in l

  abbrev P : ℕ
  P = particles_in l

  -- the words that are no held mark
  header-same : (i : ℕ) → i < 4 → w i ≡ w' i
  header-same i h = alike.same i (λ x. omega (arith, x.2))

  type-same : (t k : ℕ) → 0 < k → k < 7 → w (type_at t + k) ≡ w' (type_at t + k)
  type-same t k h g = alike.same (type_at t + k) (λ x. let e = x.2 in omega arith)

  past_same : (i : ℕ) → type_at T ≤ i → w i ≡ w' i
  past_same i h = alike.same i (λ x. let e = x.2 in let f = x.1 in omega arith)

  -- the rows
  content-same : (t : ℕ) → content_of l t ≡ content_of l' t
  unfolding content_of
  content-same t =
      cc (
        type-same t 1 (omega arith) (omega arith),
        type-same t 4 (omega arith) (omega arith),
        type-same t 5 (omega arith) (omega arith),
        type-same t 6 (omega arith) (omega arith),
      )

  row_same : (p : ℕ) → row_at l T A p ≡ row_at l' T A p
  unfolding row_at
  row_same p =
      let i = particle_at T A p in
      cc (past_same i (omega arith), past_same (i + 1) (omega arith), past_same (i + 2) (omega arith), past_same (i + 3) (omega arith))

  attribute-same : (a : ℕ) → attribute_of l a ≡ attribute_of l' a
  unfolding attribute_of
  attribute-same a =
      let i = attribute_at T a in
      let t = w (i + 2) in
      cc (
        header-same 1 (omega arith),
        past_same i (omega arith),
        past_same (i + 1) (omega arith),
        past_same (i + 2) (omega arith),
        type-same t 4 (omega arith) (omega arith),
        type-same t 5 (omega arith) (omega arith),
        type-same t 6 (omega arith) (omega arith),
      )

  attributes-same : (n i : ℕ) → attributes_from l n i ≡ attributes_from l' n i
  unfolding attributes_from
  attributes-same zero i = refl
  attributes-same (suc n) i = cc (attribute-same i, attributes-same n (i + 1))

  listed_same : (t : ℕ) → attributes_of l t ≡ attributes_of l' t
  unfolding attributes_of first_of count_of
  listed_same t =
      cc (
        type-same t 2 (omega arith) (omega arith),
        type-same t 3 (omega arith) (omega arith),
        attributes-same (w (type_at t + 3)) (w (type_at t + 2)),
      )

  particle-same : (p : ℕ) → row_of l p ≡ row_of l' p
  unfolding row_of
  particle-same p = cc (row_same p, header-same 1 (omega arith), header-same 2 (omega arith))

  -- what stands behind the rows
  end_same : rows_end l ≡ rows_end l'
  end_same = cc (header-same 1 (omega arith), header-same 2 (omega arith), header-same 3 (omega arith))

  behind-same : (i : ℕ) → rows_end l ≤ i → w i ≡ w' i
  behind-same i h = past_same i (omega arith)

  derivations-same : derivations_in l ≡ derivations_in l'
  derivations-same = behind-same (rows_end l) (omega arith) ∙ ap w' end_same

  substitutions-same : substitutes_in l ≡ substitutes_in l'
  substitutions-same = behind-same (rows_end l + 1) (omega arith) ∙ ap (λ i. w' (i + 1)) end_same

  substitutes-from-same : (n i : ℕ) → substitutes_from l n i ≡ substitutes_from l' n i
  unfolding substitutes_from
  substitutes-from-same zero i = refl
  substitutes-from-same (suc n) i =
      cc (behind-same (substitute_at (rows_end l) (derivations_in l) i + 1) (omega arith), end_same, derivations-same, substitutes-from-same n (i + 1))

  substitutes-same : (p : ℕ) → substitutes_of l p ≡ substitutes_of l' p
  unfolding substitutes_of
  substitutes-same p =
      let j = row_pair_at (rows_end l) (derivations_in l) (substitutes_in l) T p in
      cc (
        behind-same j (omega arith),
        behind-same (j + 1) (omega arith),
        end_same,
        derivations-same,
        substitutions-same,
        header-same 1 (omega arith),
        substitutes-from-same (w (j + 1)) (w j),
      )

  derived-from-same : (n i : ℕ) → derived_from l n i ≡ derived_from l' n i
  unfolding derived_from
  derived-from-same zero i = refl
  derived-from-same (suc n) i =
      cc (behind-same (derived_at (rows_end l) i) (omega arith), end_same, derived-from-same n (i + 1))

  derived-same : (t : ℕ) → derived_of l t ≡ derived_of l' t
  unfolding derived_of
  derived-same t =
      let j = type_pair_at (rows_end l) (derivations_in l) (substitutes_in l) t in
      cc (
        behind-same j (omega arith),
        behind-same (j + 1) (omega arith),
        end_same,
        derivations-same,
        substitutions-same,
        derived-from-same (w (j + 1)) (w j),
      )

  pub table_same : table_of l ≡ table_of l'
  unfolding table_of
  table_same =
      λ i. record {
        types = header-same 1 (omega arith) i;
        attributes = λ t. listed_same t i;
        content = λ t. content-same t i;
        row = λ p. particle-same p i;
        substitutes = λ p. substitutes-same p i;
        derived = λ t. derived-same t i;
        derivations = derivations-same i;
      }

  module _ (long : length l ≡ length l') (marks : Marks l) (marks' : Marks l') where
    given-same : (i least most : ℕ) → i < 4 → given l i least most ≡ given l' i least most
    unfolding given
    given-same i least most h = cc (long, header-same i h)

    header-words-same : header_words l ≡ header_words l'
    unfolding header_words
    header-words-same =
        cc (
          given-same 0 plain_form cast_form (omega arith),
          given-same 1 1 most_types (omega arith),
          given-same 2 0 most_attributes (omega arith),
          given-same 3 0 most_particles (omega arith),
        )

    mark-same : (t : ℕ) → t < T → leb (w (type_at t)) most_held ≡ leb (w' (type_at t)) most_held
    mark-same t h =
        le-leb _ _ (marks.mark t h) ∙ sym (le-leb _ _ (marks'.mark t (omega (arith, header-same 1 (omega arith)))))

    type-row-same : (t : ℕ) → t < T → type_row (word_at l) A P t ≡ type_row (word_at l') A P t
    unfolding type_row front_words
    type-row-same t h =
        cc (
          mark-same t h,
          type-same t 1 (omega arith) (omega arith),
          type-same t 2 (omega arith) (omega arith),
          type-same t 3 (omega arith) (omega arith),
          type-same t 4 (omega arith) (omega arith),
          type-same t 5 (omega arith) (omega arith),
          type-same t 6 (omega arith) (omega arith),
        )

    attribute-row-same : (a : ℕ) → attribute_row (word_at l) T a ≡ attribute_row (word_at l') T a
    unfolding attribute_row
    attribute-row-same a =
        let i = attribute_at T a in
        cc (
          past_same i (omega arith),
          past_same (i + 1) (omega arith),
          past_same (i + 2) (omega arith),
          type-same (w (i + 2)) 1 (omega arith) (omega arith),
          type-same (w (i + 2)) 3 (omega arith) (omega arith),
        )

    particle-row-same : (p : ℕ) → particle_row (word_at l) T A P p ≡ particle_row (word_at l') T A P p
    unfolding particle_row
    particle-row-same p =
        let i = particle_at T A p in
        cc (past_same i (omega arith), past_same (i + 1) (omega arith), past_same (i + 2) (omega arith), past_same (i + 3) (omega arith))

    row-words-same : row_words (word_at l) T A P ≡ row_words (word_at l') T A P
    unfolding row_words
    row-words-same =
        cc (
          rows_same (type_row (word_at l) A P) (type_row (word_at l') A P) 0 T (λ t h. type-row-same t (omega arith)),
          rows_same (attribute_row (word_at l) T) (attribute_row (word_at l') T) 0 A (λ a h. attribute-row-same a),
          rows_same (particle_row (word_at l) T A P) (particle_row (word_at l') T A P) 0 P (λ p h. particle-row-same p),
        )

    -- the rows behind the others
    words-from-same : (n i : ℕ) → rows_end l ≤ i → words_from (word_at l) i n ≡ words_from (word_at l') i n
    unfolding words_from
    words-from-same zero i h = refl
    words-from-same (suc n) i h = cc (behind-same i h, words-from-same n (i + 1) (omega arith))

    derived-row-same : (i : ℕ) → derived_row (word_at l) T (rows_end l) i ≡ derived_row (word_at l') T (rows_end l) i
    unfolding derived_row
    derived-row-same i = cc (behind-same (derived_at (rows_end l) i) (omega arith))

    module _ (D S : ℕ) where
      substitute-row-same : (i : ℕ) → substitute_row (word_at l) T (rows_end l) D i ≡ substitute_row (word_at l') T (rows_end l) D i
      unfolding substitute_row
      substitute-row-same i =
          let j = substitute_at (rows_end l) D i in
          cc (behind-same j (omega arith), behind-same (j + 1) (omega arith))

      type-pair-same : (t : ℕ) → type_pair_row (word_at l) (rows_end l) D S t ≡ type_pair_row (word_at l') (rows_end l) D S t
      unfolding type_pair_row
      type-pair-same t =
          let j = type_pair_at (rows_end l) D S t in
          cc (
            behind-same j (omega arith),
            behind-same (j + 1) (omega arith),
            words-from-same (w (j + 1)) (derived_at (rows_end l) (w j)) (omega arith),
          )

      row-pair-same : (p : ℕ) → row_pair_row (word_at l) T A (rows_end l) D S p ≡ row_pair_row (word_at l') T A (rows_end l) D S p
      unfolding row_pair_row
      row-pair-same p =
          let j = row_pair_at (rows_end l) D S T p in
          cc (behind-same j (omega arith), behind-same (j + 1) (omega arith), past_same (particle_at T A p) (omega arith))

      cast-words-same : cast_words (word_at l) T A P (rows_end l) D S ≡ cast_words (word_at l') T A P (rows_end l) D S
      unfolding cast_words
      cast-words-same =
          cc (
            rows_same (derived_row (word_at l) T (rows_end l)) (derived_row (word_at l') T (rows_end l)) 0 D (λ i h. derived-row-same i),
            rows_same (substitute_row (word_at l) T (rows_end l) D) (substitute_row (word_at l') T (rows_end l) D) 0 S (λ i h. substitute-row-same i),
            rows_same (type_pair_row (word_at l) (rows_end l) D S) (type_pair_row (word_at l') (rows_end l) D S) 0 T (λ t h. type-pair-same t),
            rows_same (row_pair_row (word_at l) T A (rows_end l) D S) (row_pair_row (word_at l') T A (rows_end l) D S) 0 P (λ p h. row-pair-same p),
          )

    form-words-same : form_words (word_at l) T A P ≡ form_words (word_at l') T A P
    unfolding form_words
    form-words-same =
        cc (
          header-same 0 (omega arith),
          behind-same (rows_end l) (omega arith),
          behind-same (rows_end l + 1) (omega arith),
          cast-words-same (derivations_in l) (substitutes_in l),
        )

    form-size-same : form_size (word_at l) T A P ≡ form_size (word_at l') T A P
    unfolding form_size
    form-size-same =
        cc (
          header-same 0 (omega arith),
          behind-same (rows_end l) (omega arith),
          behind-same (rows_end l + 1) (omega arith),
        )

    pub verdict-same : verdict l ≡ verdict l'
    unfolding verdict verdict_from length_right
    verdict-same =
        cc (
          long,
          header-words-same,
          row-words-same,
          form-words-same,
          form-size-same,
          header-same 1 (omega arith),
          header-same 2 (omega arith),
          header-same 3 (omega arith),
        )
