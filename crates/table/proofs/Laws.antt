-- The laws of a right table: it keeps to what `Keeps` says. Callers cite these and never the words.
use Prim.Native.Nat.{ℕ, zero, suc, ◌+◌, ◌≤◌, ◌<◌}
use mathlib.Core.Path.{◌≡◌, refl, sym, ◌∙◌}
use mathlib.Core.List.{List, [], ◌++◌}
use mathlib.Core.Bool.{Bool, true, false, ◌&&◌, ◌||◌, true≢false}
use native.Mathlib.Omega.{arith}
use borrow.Author.Tests.{ltb-true, leb-true, eqb-true, eq-eqb, ne_eqb, lt-ltb, le-leb}
use lib.Dec.{leb, eqb}
use lib.ListN.{length}
use Rattle.signed.specs.Words.{rank}
use Rattle.table.specs.Words.{cast_form, type_at, size_of, word_at, types_in, attributes_in, particles_in, rows_end, derivations_in, substitutes_in}
use Rattle.table.specs.First.{first, judge, ◌then◌}
use Rattle.table.specs.First.Verdict.{right, wrong}
use Rattle.table.proofs.FirstLaws.{judge-right, then-right, both_right, Every, right-every, every_append, both_true}
use Rattle.numbers.specs.Simple.{ranged}
use Rattle.numbers.specs.Limit.{most_types, most_attributes, most_particles, most_values, most_times, unbounded, most_table_words, most_derivations, most_substitutes, most_held}
use Rattle.table.specs.Valid.{within, given, header_words, front_words, range_words, enumeration_words, kind_words, simple_words, particles_words, content_words, attribute_words, element_words, group_words, occurs_words, particle_words, type_row, attribute_row, particle_row, row_words, count_words, cast_words, form_words, form_size, length_right, verdict, verdict_from, Sized}
use Rattle.table.proofs.Lines.{types_verdict, attributes_verdict, particles_verdict, rows-in-parts, words-in-parts, rows-every, form-words-length}
use Rattle.table.specs.Keeps.{ElementOk, GroupOk, OccursOk, RowOk, SimpleOk, ContentOk, AttributeOk, Each, CountsOk}
use Rattle.table.specs.Rows.Content.{simple}
use Rattle.table.specs.Rows.{Attribute, content_from, row_from, content_of, row_at, row_of, attribute_type, attribute_of, attributes_from, first_of, count_of, attributes_of, table_of}
use Rattle.table.proofs.Walk.{attributes-length}
use Rattle.table.specs.Views.{row_is, content_is}
use Rattle.table.specs.declared.answers.Particle as code·particle
use Rattle.table.specs.declared.answers.Content as code·content

-- From tests to facts.
element-ok : (T P name type row z : ℕ) → row < P → Every (element_words T name type z) → ElementOk T P name type row
unfolding element_words
element-ok T P name type row z g h = record { name-small = leb-true _ _ h.0; type_known = ltb-true _ _ h.1.0; row_known = g }

group-ok : (P least p start count z : ℕ) → Every (group_words P least p start count z) → GroupOk P p least start count
unfolding group_words
group-ok P least p start count z h =
    let place = both_true _ _ h.0 in
    let number = both_true _ _ h.1.0 in
    let within = both_true _ _ number.0 in
    record { over = ltb-true _ _ place.0; within = leb-true _ _ number.1; enough = leb-true _ _ within.0; few = leb-true _ _ within.1 }

most-ok : (least most : ℕ) (u v : Bool) → eqb most unbounded ≡ u → least ≤ most_times → (u || v) ≡ true
    → (v ≡ true → (1 ≤ most) × (most ≤ most_times) × (least ≤ most)) → (1 ≤ most) × (most ≤ unbounded) × (least ≤ most)
most-ok least most true v e h f g = let m = eqb-true most unbounded e in (omega arith, omega arith, omega arith)
most-ok least most false v e h f g = let r = g f in (r.0, omega arith, r.2)

bounded-ok : (least most : ℕ) → (within 1 most_times most && leb least most) ≡ true → (1 ≤ most) × (most ≤ most_times) × (least ≤ most)
bounded-ok least most e =
    let b = both_true _ _ e in
    let w = both_true _ _ b.0 in
    (leb-true _ _ w.0, leb-true _ _ w.1, leb-true _ _ b.1)

occurs-ok : (P p child least most : ℕ) → Every (occurs_words P p child least most) → OccursOk P p child least most
unfolding occurs_words
occurs-ok P p child least most h =
    let place = both_true _ _ h.0 in
    let small = leb-true least most_times h.1.0 in
    let m = most-ok least most _ _ refl small h.1.1.0 (bounded-ok least most) in
    record {
      over = ltb-true _ _ place.0;
      within = ltb-true _ _ place.1;
      least_small = small;
      some = m.0;
      most_small = m.1;
      ordered = m.2;
    }

row-from-ok : (T P p kind x y z : ℕ) → p < P → Every (particle_words T P p kind x y z) → RowOk T P p (row_from p kind x y z)
unfolding particle_words row_from
row-from-ok T P p zero x y z g h = element-ok T P x y p z g h.1
row-from-ok T P p (suc zero) x y z g h = group-ok P 1 p x y z h.1
row-from-ok T P p (suc (suc zero)) x y z g h = group-ok P 2 p x y z h.1
row-from-ok T P p (suc (suc (suc zero))) x y z g h = occurs-ok P p x y z h.1
row-from-ok T P p (suc (suc (suc (suc k)))) x y z g h = absurd (true≢false (sym h.0))

range-ok : (b c : ℕ) → Every (range_words b c) → rank b ≤ rank c
unfolding range_words
range-ok b c h = leb-true _ _ h.1.0

values-ok : (b c : ℕ) → Every (enumeration_words b c) → (1 ≤ b) × (b ≤ most_values)
unfolding enumeration_words
values-ok b c h = let w = both_true _ _ h.0 in (leb-true _ _ w.0, leb-true _ _ w.1)

simple-ok : (kind b c : ℕ) → Every (simple_words kind b c) → SimpleOk kind b c
unfolding simple_words kind_words
simple-ok kind b c h =
    record {
      kind_known = leb-true _ _ h.0;
      range = λ e. range-ok b c (rw (eq-eqb _ _ e) at h.1);
      values = λ e. values-ok b c (rw (ne_eqb kind ranged (omega arith), eq-eqb _ _ e) at h.1);
    }

content-from-ok : (P content a b c : ℕ) → Every (content_words P content a b c) → ContentOk P (content_from content a b c)
unfolding content_words content_from particles_words
content-from-ok P zero a b c h = tt
content-from-ok P (suc zero) a b c h = simple-ok a b c h
content-from-ok P (suc (suc k)) a b c h = ltb-true _ _ h.0

-- The length: right where its test holds; a wrong one is named at the number of words given.
module _ (l : List ℕ) where
  pub length-says : length_right l (types_in l) (attributes_in l) (particles_in l) ≡ true → Sized l
  unfolding length_right
  length-says e = let h = both_true _ _ e in record { by_form = eqb-true _ _ h.0; few = leb-true _ _ h.1 }

  pub length-told : Sized l → length_right l (types_in l) (attributes_in l) (particles_in l) ≡ true
  unfolding length_right
  length-told s = rw (eq-eqb _ _ s.by_form, le-leb _ _ s.few)

  pub rows-within : Sized l → rows_end l ≤ length l
  rows-within s = omega (arith, s.by_form, form-words-length (word_at l) (types_in l) (attributes_in l) (particles_in l))

  unsized-by : (b : Bool) → length_right l (types_in l) (attributes_in l) (particles_in l) ≡ b → first 0 (header_words l) ≡ right → (Sized l → ⊥) → verdict l ≡ wrong (length l)
  unfolding verdict verdict_from judge ◌then◌
  unsized-by true f e n = absurd (n (length-says f))
  unsized-by false f e n = then-right _ _ e ∙ rw f

  pub unsized : first 0 (header_words l) ≡ right → (Sized l → ⊥) → verdict l ≡ wrong (length l)
  unsized = unsized-by _ refl

-- The laws.
module _ (l : List ℕ) (valid : verdict l ≡ right) where
  abbrev w : ℕ → ℕ
  w i = word_at l i

  abbrev T : ℕ
  T = types_in l

  abbrev A : ℕ
  A = attributes_in l

  abbrev P : ℕ
  P = particles_in l

  parts : (first 0 (header_words l) ≡ right)
      × (judge (length l) (length_right l T A P) ≡ right)
      × (first 4 (row_words (word_at l) T A P ++ form_words (word_at l) T A P) ≡ right)
  unfolding verdict verdict_from
  parts = let h = both_right _ _ valid in let g = both_right _ _ h.1 in (h.0, g.0, g.1)

  word-parts : (first 4 (row_words (word_at l) T A P) ≡ right) × (first (size_of T A P) (form_words (word_at l) T A P) ≡ right)
  word-parts = both_right _ _ (sym (words-in-parts (word_at l) T A P) ∙ parts.2)

  row-parts : (types_verdict (word_at l) T A P ≡ right) × (attributes_verdict (word_at l) T A P ≡ right) × (particles_verdict (word_at l) T A P ≡ right)
  row-parts = let h = both_right _ _ (sym (rows-in-parts (word_at l) T A P) ∙ word-parts.0) in let g = both_right _ _ h.1 in (h.0, g.0, g.1)

  -- every row of each kind
  type-every : (t : ℕ) → t < T → Every (type_row (word_at l) A P t)
  type-every t h = rows-every _ 0 T t (right-every _ _ row-parts.0) (omega arith) (omega arith)

  attribute-every : (a : ℕ) → a < A → Every (attribute_row (word_at l) T a)
  attribute-every a h = rows-every _ 0 A a (right-every _ _ row-parts.1) (omega arith) (omega arith)

  particle-every : (p : ℕ) → p < P → Every (particle_row (word_at l) T A P p)
  particle-every p h = rows-every _ 0 P p (right-every _ _ row-parts.2) (omega arith) (omega arith)

  pub row_ok : (p : ℕ) → p < P → RowOk T P p ((table_of l).row p)
  unfolding table_of row_of row_at particle_row
  row_ok p h = row-from-ok T P p _ _ _ _ h (particle-every p h)

  -- the two parts of a type row
  abbrev front : ℕ → List Bool
  front t = let i = type_at t in front_words A (w i) (w (i + 1)) (w (i + 2)) (w (i + 3))

  abbrev back : ℕ → List Bool
  back t = let i = type_at t in content_words P (w (i + 1)) (w (i + 4)) (w (i + 5)) (w (i + 6))

  front-back : (t : ℕ) → t < T → Every (front t) × Every (back t)
  unfolding type_row
  front-back t h = every_append (front t) (back t) (type-every t h)

  pub content-ok : (t : ℕ) → t < T → ContentOk P ((table_of l).content t)
  unfolding table_of content_of
  content-ok t h = content-from-ok P _ _ _ _ (front-back t h).1

  -- the attribute rows of a type lie within the table's
  pub span-ok : (t : ℕ) → t < T → first_of l t + count_of l t ≤ A
  unfolding front_words first_of count_of
  span-ok t h = leb-true _ _ (front-back t h).0.1.1.1.0

  -- a held word has marks of parties alone
  pub mark-ok : (t : ℕ) → t < T → w (type_at t) ≤ most_held
  unfolding front_words
  mark-ok t h = leb-true _ _ (front-back t h).0.0

  -- a type that an attribute may have
  simple-is : (t : ℕ) → w (type_at t + 1) ≡ 1 → content_of l t ≡ simple (w (type_at t + 4)) (w (type_at t + 5)) (w (type_at t + 6))
  unfolding content_of content_from
  simple-is t e = rw e

  none-are : (t : ℕ) → w (type_at t + 3) ≡ 0 → attributes_of l t ≡ []
  unfolding attributes_of attributes_from count_of
  none-are t e = rw e

  plain_ok : (t : ℕ) → t < T → w (type_at t + 1) ≡ 1 → SimpleOk (w (type_at t + 4)) (w (type_at t + 5)) (w (type_at t + 6))
  unfolding content_words
  plain_ok t h e = simple-ok _ _ _ (rw e at (front-back t h).1)

  abbrev Attributed : ℕ → Attribute → Type 0
  Attributed a = AttributeOk (table_of l) (attribute_type l a)

  pub attribute-ok : (a : ℕ) → a < A → AttributeOk (table_of l) (attribute_type l a) (attribute_of l a)
  unfolding table_of attribute_of attribute_row attribute_words
  attribute-ok a h =
      let r = attribute-every a h in
      let type = both_true _ _ r.1.1.0 in
      let plain = both_true _ _ type.1 in
      let known = ltb-true _ _ type.0 in
      let one = eqb-true _ _ plain.0 in
      record {
        name-small = leb-true _ _ r.0;
        type_known = known;
        type_simple = simple-is _ one;
        type_bare = none-are _ (eqb-true _ _ plain.1);
        value = plain_ok _ known one;
      }

  attributes-from-ok : (n i : ℕ) → i + n ≤ A → Each Attributed i (attributes_from l n i)
  unfolding attributes_from
  attributes-from-ok zero i h = tt
  attributes-from-ok (suc n) i h = (attribute-ok i (omega arith), attributes-from-ok n (i + 1) (omega arith))

  pub attributes-ok : (t : ℕ) → t < T → Each (λ a. AttributeOk (table_of l) (attribute_type l a)) (first_of l t) ((table_of l).attributes t)
  unfolding table_of attributes_of
  attributes-ok t h = attributes-from-ok (count_of l t) (first_of l t) (omega (arith, span-ok t h))

  pub attributes_few : (t : ℕ) → t < T → length ((table_of l).attributes t) ≤ A
  attributes_few t h = omega (arith, attributes-length l t, span-ok t h)

  -- the length, and the numbers of rows
  pub sized : Sized l
  sized = length-says l (judge-right _ _ parts.1)

  given-ok : (i least most : ℕ) → i < 4 → given l i least most ≡ true → (least ≤ w i) × (w i ≤ most)
  unfolding given
  given-ok i least most h e =
      let b = both_true _ _ (rw (lt-ltb i (length l) (omega (arith, rows-within l sized))) at e) in
      (leb-true _ _ b.0, leb-true _ _ b.1)

  pub counts-ok : CountsOk T A P
  unfolding header_words
  counts-ok =
      let h = right-every 0 (header_words l) parts.0 in
      let types = given-ok 1 1 most_types (omega arith) h.1.0 in
      record {
        types_some = types.0;
        types_few = types.1;
        attributes_few = (given-ok 2 0 most_attributes (omega arith) h.1.1.0).1;
        particles_few = (given-ok 3 0 most_particles (omega arith) h.1.1.1.0).1;
      }

  -- in form 2 every word behind the rows
  pub cast-every : eqb (w 0) cast_form ≡ true → Every (cast_words (word_at l) T A P (rows_end l) (derivations_in l) (substitutes_in l))
  unfolding form_words
  cast-every e = rw e at (right-every _ _ word-parts.1)

  pub cast-counts : eqb (w 0) cast_form ≡ true → (derivations_in l ≤ most_derivations) × (substitutes_in l ≤ most_substitutes)
  unfolding cast_words count_words
  cast-counts e = let h = cast-every e in (leb-true _ _ h.0, leb-true _ _ h.1.0)

  pub plain-length : eqb (w 0) cast_form ≡ false → length l ≡ rows_end l
  unfolding form_size
  plain-length e = rw e at sized.by_form

  pub length-few : length l ≤ most_table_words
  length-few = sized.few

  -- the same of what the code answers
  pub particle-met : (p : ℕ) → p < P → (r : code·particle.Particle) → row_is r ≡ (table_of l).row p → RowOk T P p (row_is r)
  particle-met p h r e = rw e (row_ok p h)

  pub content-met : (t : ℕ) → t < T → (r : code·content.Content) → content_is r ≡ (table_of l).content t → ContentOk P (content_is r)
  content-met t h r e = rw e (content-ok t h)
