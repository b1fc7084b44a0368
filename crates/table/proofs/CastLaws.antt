-- What a right table keeps to in its derived types and substitutes.
use Prim.Native.Nat.{ℕ, zero, suc, ◌+◌, ◌≤◌, ◌<◌}
use mathlib.Core.Path.{◌≡◌, refl, ap, ◌∙◌}
use mathlib.Core.List.{List, [], ◌∷◌}
use mathlib.Core.Bool.{Bool, true, false, cond}
use native.Mathlib.Omega.{arith}
use borrow.Author.Tests.{ltb-true, leb-true, eqb-true}
use lib.Dec.{leb, eqb}
use lib.ListN.{get_or-eq_default}
use Rattle.numbers.specs.Limit.{most_derivations, most_substitutes}
use Rattle.numbers.specs.Particle as particle
use Rattle.table.specs.First.Verdict.{right}
use Rattle.table.specs.Words.{cast_form, word_at, particle_at, derived_at, substitute_at, type_pair_at, row_pair_at, types_in, attributes_in, particles_in, rows_end, derivations_in, substitutes_in}
use Rattle.table.specs.Rows.{substitutes_from, substitutes_of, derived_from, derived_of, table_of}
use Rattle.table.specs.Valid.{verdict, among, once, words_from, rows, count_words, derived_words, substitute_words, type_pair, row_pair, derived_row, substitute_row, type_pair_row, row_pair_row, cast_words}
use Rattle.table.specs.Keeps.{TypesOk}
use Rattle.table.proofs.Casts.{derived-length, derived-each, substitutes-length, substitutes-each}
use Rattle.table.proofs.FirstLaws.{Every, every_append, both_true}
use Rattle.table.proofs.Laws.{cast-every, cast-counts, plain-length}
use Rattle.table.proofs.Lines.{rows-every}

-- the words behind the rows, of either form; those of form 1 are 0
record Behind (w : ℕ → ℕ) (T P B D S : ℕ) : Type 0 where
  derivations_few : D ≤ most_derivations
  substitutes_few : S ≤ most_substitutes
  entry_known : (i : ℕ) → i < D → w (derived_at B i) < T
  substitute_known : (i : ℕ) → i < S → w (substitute_at B D i + 1) < T
  derived_within : (t : ℕ) → t < T → w (type_pair_at B D S t) + w (type_pair_at B D S t + 1) ≤ D
  derived_other : (t : ℕ) → t < T → once (t ∷ words_from w (derived_at B (w (type_pair_at B D S t))) (w (type_pair_at B D S t + 1))) ≡ true
  substitutes_within : (p : ℕ) → p < P → w (row_pair_at B D S T p) + w (row_pair_at B D S T p + 1) ≤ S

-- the pair of a row that is no element is 0, 0
within_by_lem : (b : Bool) (S start count : ℕ) → Every (cond b (leb start S ∷ leb (start + count) S ∷ []) (eqb start 0 ∷ eqb count 0 ∷ [])) → start + count ≤ S
within_by_lem true S start count h = leb-true _ _ h.1.0
within_by_lem false S start count h = let e = eqb-true start 0 h.0 in let f = eqb-true count 0 h.1.0 in omega arith

module _ (l : List ℕ) (valid : verdict l ≡ right) where
  abbrev w : ℕ → ℕ
  w i = word_at l i

  abbrev T : ℕ
  T = types_in l

  abbrev A : ℕ
  A = attributes_in l

  abbrev P : ℕ
  P = particles_in l

  abbrev B : ℕ
  B = rows_end l

  abbrev D : ℕ
  D = derivations_in l

  abbrev S : ℕ
  S = substitutes_in l

  abbrev Kept : Type 0
  Kept = Behind (word_at l) T P B D S

  module _ (plain : eqb (w 0) cast_form ≡ false) where
    none : (i : ℕ) → B ≤ i → w i ≡ 0
    none i h = get_or-eq_default l 0 {n = i} (omega (arith, plain-length l valid plain))

    lone : (t i n : ℕ) → n ≡ 0 → once (t ∷ words_from (word_at l) i n) ≡ true
    unfolding once among words_from
    lone t i n e = rw e

    plain-kept : Kept
    plain-kept =
        record {
          derivations_few = omega (arith, none B (omega arith));
          substitutes_few = omega (arith, none (B + 1) (omega arith));
          entry_known = λ i h. absurd (omega (arith, none B (omega arith)));
          substitute_known = λ i h. absurd (omega (arith, none (B + 1) (omega arith)));
          derived_within = λ t h. omega (arith, none (type_pair_at B D S t) (omega arith), none (type_pair_at B D S t + 1) (omega arith));
          derived_other = λ t h. lone t _ _ (none (type_pair_at B D S t + 1) (omega arith));
          substitutes_within = λ p h. omega (arith, none (row_pair_at B D S T p) (omega arith), none (row_pair_at B D S T p + 1) (omega arith));
        }

  module _ (cast : eqb (w 0) cast_form ≡ true) where
    abbrev derived_tests : List Bool
    derived_tests = rows (derived_row (word_at l) T B) 0 D

    abbrev substitute_tests : List Bool
    substitute_tests = rows (substitute_row (word_at l) T B D) 0 S

    abbrev type_tests : List Bool
    type_tests = rows (type_pair_row (word_at l) B D S) 0 T

    abbrev row_tests : List Bool
    row_tests = rows (row_pair_row (word_at l) T A B D S) 0 P

    parts : Every derived_tests × Every substitute_tests × Every type_tests × Every row_tests
    unfolding cast_words count_words
    parts =
        let a = every_append derived_tests _ (cast-every l valid cast).1.1 in
        let b = every_append substitute_tests _ a.1 in
        let c = every_append type_tests row_tests b.1 in
        (a.0, b.0, c.0, c.1)

    entry-every : (i : ℕ) → i < D → Every (derived_row (word_at l) T B i)
    entry-every i h = rows-every _ 0 D i parts.0 (omega arith) (omega arith)

    substitute-every : (i : ℕ) → i < S → Every (substitute_row (word_at l) T B D i)
    substitute-every i h = rows-every _ 0 S i parts.1 (omega arith) (omega arith)

    type-every : (t : ℕ) → t < T → Every (type_pair_row (word_at l) B D S t)
    type-every t h = rows-every _ 0 T t parts.2 (omega arith) (omega arith)

    row-every : (p : ℕ) → p < P → Every (row_pair_row (word_at l) T A B D S p)
    row-every p h = rows-every _ 0 P p parts.3 (omega arith) (omega arith)

    entry-below : (i : ℕ) → i < D → w (derived_at B i) < T
    unfolding derived_row derived_words
    entry-below i h = ltb-true _ _ (entry-every i h).0

    substitute-below : (i : ℕ) → i < S → w (substitute_at B D i + 1) < T
    unfolding substitute_row substitute_words
    substitute-below i h = ltb-true _ _ (substitute-every i h).1.0

    type-kept : (t : ℕ) → t < T
        → (w (type_pair_at B D S t) + w (type_pair_at B D S t + 1) ≤ D)
        × (once (t ∷ words_from (word_at l) (derived_at B (w (type_pair_at B D S t))) (w (type_pair_at B D S t + 1))) ≡ true)
    unfolding type_pair_row type_pair
    type-kept t h = let b = both_true _ _ (type-every t h).1.0 in (leb-true _ _ b.0, b.1)

    row_kept : (p : ℕ) → p < P → w (row_pair_at B D S T p) + w (row_pair_at B D S T p + 1) ≤ S
    unfolding row_pair_row row_pair
    row_kept p h = within_by_lem (eqb (w (particle_at T A p)) particle.element) S _ _ (row-every p h)

    cast-kept : Kept
    cast-kept =
        record {
          derivations_few = (cast-counts l valid cast).0;
          substitutes_few = (cast-counts l valid cast).1;
          entry_known = entry-below;
          substitute_known = substitute-below;
          derived_within = λ t h. (type-kept t h).0;
          derived_other = λ t h. (type-kept t h).1;
          substitutes_within = row_kept;
        }

  kept_by : (b : Bool) → eqb (w 0) cast_form ≡ b → Kept
  kept_by true e = cast-kept e
  kept_by false e = plain-kept e

  kept : Kept
  kept = kept_by (eqb (w 0) cast_form) refl

  derived-words : (n i : ℕ) → derived_from l n i ≡ words_from (word_at l) (derived_at B i) n
  unfolding derived_from words_from
  derived-words zero i = refl
  derived-words (suc n) i =
      ap (λ (x : List ℕ). w (derived_at B i) ∷ x)
      (derived-words n (i + 1) ∙ (let q : derived_at B (i + 1) ≡ derived_at B i + 1 = omega arith in rw q))

  pub derived-ok : (t : ℕ) → t < types_in l → TypesOk (types_in l) most_derivations ((table_of l).derived t)
  unfolding table_of derived_of
  derived-ok t h =
      let j = type_pair_at B D S t in
      let n = w (j + 1) in
      let within = kept.derived_within t h in
      let long = derived-length l n (w j) in
      record {
        known = λ k g.
            let below : k < n = omega arith in
            rw (derived-each l n (w j) k below) (kept.entry_known (w j + k) (omega arith));
        few = omega (arith, kept.derivations_few);
      }

  -- each is another, and none is the type itself: so a type's place in the list is known
  pub derived-once : (t : ℕ) → t < types_in l → once (t ∷ (table_of l).derived t) ≡ true
  unfolding table_of derived_of
  derived-once t h = let j = type_pair_at B D S t in rw (derived-words (w (j + 1)) (w j)) (kept.derived_other t h)

  pub substitutes-ok : (p : ℕ) → p < particles_in l → TypesOk (types_in l) most_substitutes ((table_of l).substitutes p)
  unfolding table_of substitutes_of
  substitutes-ok p h =
      let j = row_pair_at B D S T p in
      let n = w (j + 1) in
      let within = kept.substitutes_within p h in
      let long = substitutes-length l n (w j) in
      record {
        known = λ k g.
            let below : k < n = omega arith in
            rw (substitutes-each l n (w j) k below) (kept.substitute_known (w j + k) (omega arith));
        few = omega (arith, kept.substitutes_few);
      }

  -- where the table has none at all, no type and no row has any
  pub no-derived : (table_of l).derivations ≡ 0 → (t : ℕ) → t < types_in l → (table_of l).derived t ≡ []
  unfolding table_of derived_of derived_from
  no-derived e t h = let z : w (type_pair_at B D S t + 1) ≡ 0 = omega (arith, kept.derived_within t h) in rw z

  pub no-substitutes : substitutes_in l ≡ 0 → (p : ℕ) → p < particles_in l → (table_of l).substitutes p ≡ []
  unfolding table_of substitutes_of substitutes_from
  no-substitutes e p h = let z : w (row_pair_at B D S T p + 1) ≡ 0 = omega (arith, kept.substitutes_within p h) in rw z
