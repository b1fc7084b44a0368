-- Rows in line: each has one test for each of its words, so the first fault of many rows is found row by row.
use Prim.Native.Nat.{ℕ, zero, suc, ◌+◌, ◌≤◌, ◌<◌}
use mathlib.Core.Path.{◌≡◌, refl, ap, ap₂, ◌∙◌}
use mathlib.Core.List.{List, [], ◌∷◌, ◌++◌}
use mathlib.Core.Bool.{Bool, true, false, cond}
use native.Mathlib.Omega.{arith}
use lib.Dec.{leb, eqb}
use lib.ListN.{length, length-append}
use Rattle.signed.proofs.Laws.{ordered}
use Rattle.table.specs.Words.{type_at, attribute_at, particle_at, size_of, derived_at, substitute_at, type_pair_at, row_pair_at, cast_size_of, cast_form}
use Rattle.table.specs.First.{Verdict, first, ◌then◌}
use Rattle.table.proofs.FirstLaws.{first-append, Every, every_append}
use Rattle.numbers.specs.Simple.{ranged, enumeration}
use Rattle.table.specs.Valid.{front_words, unused_words, range_words, enumeration_words, kind_words, empty_words, simple_words, particles_words, content_words, attribute_words, element_words, group_words, occurs_words, particle_words, rows, type_row, attribute_row, particle_row, row_words, count_words, derived_words, substitute_words, type_pair, row_pair, derived_row, substitute_row, type_pair_row, row_pair_row, cast_words, form_words, form_size}
use Rattle.numbers.specs.Particle as particle

-- each row has one test for each of its words
two : (x y : Bool) (b c : ℕ) → length (cond x (range_words b c) (cond y (enumeration_words b c) (unused_words b c))) ≡ 2
unfolding range_words enumeration_words unused_words
two true y b c = refl
two false true b c = refl
two false false b c = refl

pub content-length : (P content a b c : ℕ) → length (content_words P content a b c) ≡ 3
unfolding content_words empty_words simple_words particles_words unused_words kind_words
content-length P zero a b c = refl
content-length P (suc zero) a b c = ap suc (two (eqb a ranged) (eqb a enumeration) b c)
content-length P (suc (suc k)) a b c = refl

pub particle-length : (T P p kind x y z : ℕ) → length (particle_words T P p kind x y z) ≡ 4
unfolding particle_words element_words group_words occurs_words
particle-length T P p zero x y z = refl
particle-length T P p (suc zero) x y z = refl
particle-length T P p (suc (suc zero)) x y z = refl
particle-length T P p (suc (suc (suc zero))) x y z = refl
particle-length T P p (suc (suc (suc (suc k)))) x y z = refl

pair-length : (x : Bool) (S start count : ℕ) → length (cond x (leb start S ∷ leb (start + count) S ∷ []) (eqb start 0 ∷ eqb count 0 ∷ [])) ≡ 2
pair-length true S start count = refl
pair-length false S start count = refl

pub row-pair-length : (S kind start count : ℕ) → length (row_pair S kind start count) ≡ 2
unfolding row_pair
row-pair-length S kind start count = pair-length (eqb kind particle.element) S start count

-- rows that stand one after another
pub record Lined (place : ℕ → ℕ) (f : ℕ → List Bool) : Type 0 where
  pub next : (i : ℕ) → place i + length (f i) ≡ place (suc i)

module _ (w : ℕ → ℕ) where
  pub types-lined : (A P : ℕ) → Lined type_at (type_row w A P)
  unfolding type_row front_words
  types-lined A P = record { next = λ t. omega (arith, content-length P (w (type_at t + 1)) (w (type_at t + 4)) (w (type_at t + 5)) (w (type_at t + 6))) }

  pub attributes-lined : (T : ℕ) → Lined (attribute_at T) (attribute_row w T)
  unfolding attribute_row attribute_words
  attributes-lined T = record { next = λ a. omega arith }

  pub particles-lined : (T A P : ℕ) → Lined (particle_at T A) (particle_row w T A P)
  unfolding particle_row
  particles-lined T A P =
      record { next = λ p. let i = particle_at T A p in omega (arith, particle-length T P p (w i) (w (i + 1)) (w (i + 2)) (w (i + 3))) }

  pub derived-lined : (T B : ℕ) → Lined (derived_at B) (derived_row w T B)
  unfolding derived_row derived_words
  derived-lined T B = record { next = λ i. omega arith }

  pub substitutes-lined : (T B D : ℕ) → Lined (substitute_at B D) (substitute_row w T B D)
  unfolding substitute_row substitute_words
  substitutes-lined T B D = record { next = λ i. omega arith }

  pub type-pairs-lined : (B D S : ℕ) → Lined (type_pair_at B D S) (type_pair_row w B D S)
  unfolding type_pair_row type_pair
  type-pairs-lined B D S = record { next = λ t. omega arith }

  pub row-pairs-lined : (T A B D S : ℕ) → Lined (row_pair_at B D S T) (row_pair_row w T A B D S)
  unfolding row_pair_row
  row-pairs-lined T A B D S =
      record { next = λ p. let j = row_pair_at B D S T p in omega (arith, row-pair-length S (w (particle_at T A p)) (w j) (w (j + 1))) }

module _ (place : ℕ → ℕ) (f : ℕ → List Bool) (lined : Lined place f) where
  -- a row, then those after it
  pub rows_step : (i n : ℕ) → first (place i) (rows f i (suc n)) ≡ first (place i) (f i) then first (place (suc i)) (rows f (suc i) n)
  unfolding rows
  rows_step i n =
      first-append (place i) (f i) (rows f (suc i) n)
      ∙ ap (λ (k : ℕ). first (place i) (f i) then first k (rows f (suc i) n)) (lined.next i)

  pub rows_end : (i n : ℕ) → place i + length (rows f i n) ≡ place (i + n)
  unfolding rows
  rows_end i zero = let e : i + 0 ≡ i = omega arith in rw e (omega arith)
  rows_end i (suc n) =
      let e : i + suc n ≡ suc i + n = omega arith in
      rw e (omega (arith, length-append (f i) (rows f (suc i) n), lined.next i, rows_end (suc i) n))

-- every one of some rows is right
pub rows-every : (f : ℕ → List Bool) (i n k : ℕ) → Every (rows f i n) → i ≤ k → k < i + n → Every (f k)
unfolding rows
rows-every f i zero k h g m = absurd (omega arith)
rows-every f i (suc n) k h g m =
    let parts = every_append (f i) (rows f (suc i) n) h in
    ordered i k (λ b. rows-every f (suc i) n k parts.1 b (omega arith)) (λ b. let e : k ≡ i = omega arith in rw e parts.0)

-- the three kinds of rows, one after the other
module _ (w : ℕ → ℕ) (T A P : ℕ) where
  abbrev pub types_verdict : Verdict
  types_verdict = first (type_at 0) (rows (type_row w A P) 0 T)

  abbrev pub attributes_verdict : Verdict
  attributes_verdict = first (attribute_at T 0) (rows (attribute_row w T) 0 A)

  abbrev pub particles_verdict : Verdict
  particles_verdict = first (particle_at T A 0) (rows (particle_row w T A P) 0 P)

  pub rows-in-parts : first 4 (row_words w T A P) ≡ types_verdict then attributes_verdict then particles_verdict
  unfolding row_words
  rows-in-parts =
      first-append 4 (rows (type_row w A P) 0 T) _
      ∙ ap (λ (v : Verdict). types_verdict then v)
      (first-append (4 + length (rows (type_row w A P) 0 T)) (rows (attribute_row w T) 0 A) _
      ∙ ap₂ (λ (i j : ℕ). first i (rows (attribute_row w T) 0 A) then first j (rows (particle_row w T A P) 0 P)) to-attributes to-particles)
    where
      to-attributes : 4 + length (rows (type_row w A P) 0 T) ≡ attribute_at T 0
      to-attributes = omega (arith, rows_end type_at _ (types-lined w A P) 0 T)

      to-particles : 4 + length (rows (type_row w A P) 0 T) + length (rows (attribute_row w T) 0 A) ≡ particle_at T A 0
      to-particles =
          omega (arith, rows_end type_at _ (types-lined w A P) 0 T, rows_end (attribute_at T) _ (attributes-lined w T) 0 A)

-- one test for each word of the rows
module _ (w : ℕ → ℕ) (T A P : ℕ) where
  pub row-words-length : 4 + length (row_words w T A P) ≡ size_of T A P
  unfolding row_words
  row-words-length =
      omega (
        arith,
        length-append (rows (type_row w A P) 0 T) (rows (attribute_row w T) 0 A ++ rows (particle_row w T A P) 0 P),
        length-append (rows (attribute_row w T) 0 A) (rows (particle_row w T A P) 0 P),
        rows_end type_at _ (types-lined w A P) 0 T,
        rows_end (attribute_at T) _ (attributes-lined w T) 0 A,
        rows_end (particle_at T A) _ (particles-lined w T A P) 0 P,
      )

  -- the rows, then what stands behind them
  pub words-in-parts : first 4 (row_words w T A P ++ form_words w T A P) ≡ first 4 (row_words w T A P) then first (size_of T A P) (form_words w T A P)
  words-in-parts =
      first-append 4 (row_words w T A P) (form_words w T A P)
      ∙ ap (λ (i : ℕ). first 4 (row_words w T A P) then first i (form_words w T A P)) row-words-length

-- what stands behind the rows of form 2, in order
module _ (w : ℕ → ℕ) (T A P B D S : ℕ) where
  abbrev derived_tests : List Bool
  derived_tests = rows (derived_row w T B) 0 D

  abbrev substitute_tests : List Bool
  substitute_tests = rows (substitute_row w T B D) 0 S

  abbrev type_tests : List Bool
  type_tests = rows (type_pair_row w B D S) 0 T

  abbrev row_tests : List Bool
  row_tests = rows (row_pair_row w T A B D S) 0 P

  counts_end : B + length (count_words D S) ≡ derived_at B 0
  unfolding count_words
  counts_end = omega arith

  derived-end : B + 2 + length derived_tests ≡ substitute_at B D 0
  derived-end = omega (arith, rows_end (derived_at B) _ (derived-lined w T B) 0 D)

  substitutes-end : substitute_at B D 0 + length substitute_tests ≡ type_pair_at B D S 0
  substitutes-end = omega (arith, rows_end (substitute_at B D) _ (substitutes-lined w T B D) 0 S)

  types-end : type_pair_at B D S 0 + length type_tests ≡ row_pair_at B D S T 0
  types-end = omega (arith, rows_end (type_pair_at B D S) _ (type-pairs-lined w B D S) 0 T)

  pub cast-words-length : B + length (cast_words w T A P B D S) ≡ cast_size_of B D S T P
  unfolding cast_words count_words
  cast-words-length =
      omega (
        arith,
        length-append derived_tests (substitute_tests ++ (type_tests ++ row_tests)),
        length-append substitute_tests (type_tests ++ row_tests),
        length-append type_tests row_tests,
        derived-end,
        substitutes-end,
        types-end,
        rows_end (row_pair_at B D S T) _ (row-pairs-lined w T A B D S) 0 P,
      )

  -- tests that end where others begin
  joined : (i j : ℕ) (xs ys : List Bool) → i + length xs ≡ j → first i (xs ++ ys) ≡ first i xs then first j ys
  joined i j xs ys e = first-append i xs ys ∙ ap (λ (k : ℕ). first i xs then first k ys) e

  pub cast-in-parts : first B (cast_words w T A P B D S)
      ≡ first B (count_words D S)
      then first (derived_at B 0) derived_tests
      then first (substitute_at B D 0) substitute_tests
      then first (type_pair_at B D S 0) type_tests
      then first (row_pair_at B D S T 0) row_tests
  unfolding cast_words
  cast-in-parts =
      joined B (derived_at B 0) (count_words D S) _ counts_end
      ∙ ap (λ (v : Verdict). first B (count_words D S) then v)
      (joined (derived_at B 0) _ derived_tests _ (omega (arith, derived-end))
      ∙ ap (λ (v : Verdict). first (derived_at B 0) derived_tests then v)
      (joined _ _ substitute_tests _ substitutes-end
      ∙ ap (λ (v : Verdict). first (substitute_at B D 0) substitute_tests then v) (joined _ _ type_tests row_tests types-end)))

-- one test for each word behind the rows
module _ (w : ℕ → ℕ) (T A P : ℕ) where
  by_form : (x : Bool) → eqb (w 0) cast_form ≡ x → size_of T A P + length (form_words w T A P) ≡ form_size w T A P
  unfolding form_words form_size
  by_form true e = rw e (cast-words-length w T A P (size_of T A P) (w (size_of T A P)) (w (size_of T A P + 1)))
  by_form false e = rw e (omega arith)

  pub form-words-length : size_of T A P + length (form_words w T A P) ≡ form_size w T A P
  form-words-length = by_form (eqb (w 0) cast_form) refl

  pub words-length : 4 + length (row_words w T A P ++ form_words w T A P) ≡ form_size w T A P
  words-length = omega (arith, length-append (row_words w T A P) (form_words w T A P), row-words-length w T A P, form-words-length)
