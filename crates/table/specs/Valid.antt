-- What is right of each word of a table, given the words before it: a list of tests, one for each word in order. Then the verdict.
use Rattle.std.specs.Prelude.{ℕ, zero, suc, ◌+◌, ◌≤◌, ◌≡◌, List, [], ◌∷◌, ◌++◌, Bool, true, false, cond, not, ◌&&◌, ◌||◌, ltb, leb, eqb, length, get_or}
use Rattle.numbers.specs.Content.{simple, particles, of_content}
use Rattle.numbers.specs.Particle.{of_particle_or}
use Rattle.numbers.specs.Simple.{ranged, enumeration, date}
use Rattle.numbers.specs.Limit.{most_types, most_attributes, most_particles, most_children, most_values, most_name, most_times, unbounded, most_derivations, most_substitutes, most_table_words, most_held}
use Rattle.numbers.specs.Particle as particle
use Rattle.signed.specs.Words.{rank}
use Rattle.table.specs.Words.{plain_form, cast_form, type_at, attribute_at, particle_at, size_of, derived_at, substitute_at, type_pair_at, row_pair_at, cast_size_of, word_at, types_in, attributes_in, particles_in}
use Rattle.table.specs.First.{Verdict, first, judge, ◌then◌}

abbrev pub within : (least most x : ℕ) → Bool
within least most x = leb least x && leb x most

-- The header words, each where it is given: the form; T types, one at least; A attribute rows; P particle rows.
unfoldable pub given : (l : List ℕ) (i least most : ℕ) → Bool
given l i least most = cond (ltb i (length l)) (within least most (word_at l i)) true

unfoldable pub header_words : List ℕ → List Bool
header_words l =
    given l 0 plain_form cast_form ∷ given l 1 1 most_types ∷ given l 2 0 most_attributes ∷ given l 3 0 most_particles ∷ []

-- A type row: held, content, first attribute row, attribute count (a pair is blamed on its later word); then a, b and c by content.
unfoldable pub front_words : (A held content start count : ℕ) → List Bool
front_words A held content start count = leb held most_held ∷ leb content particles ∷ leb start A ∷ leb (start + count) A ∷ []

unfoldable pub unused_words : (b c : ℕ) → List Bool
unused_words b c = eqb b 0 ∷ eqb c 0 ∷ []

-- signed ends, b not over c
unfoldable pub range_words : (b c : ℕ) → List Bool
range_words b c = true ∷ leb (rank b) (rank c) ∷ []

unfoldable pub enumeration_words : (b c : ℕ) → List Bool
enumeration_words b c = within 1 most_values b ∷ eqb c 0 ∷ []

-- of the simple kinds two have parameters
unfoldable pub kind_words : (kind b c : ℕ) → List Bool
kind_words kind b c =
    cond (eqb kind ranged) (range_words b c) (cond (eqb kind enumeration) (enumeration_words b c) (unused_words b c))

unfoldable pub empty_words : (a b c : ℕ) → List Bool
empty_words a b c = eqb a 0 ∷ unused_words b c

unfoldable pub simple_words : (kind b c : ℕ) → List Bool
simple_words kind b c = leb kind date ∷ kind_words kind b c

unfoldable pub particles_words : (P a b c : ℕ) → List Bool
particles_words P a b c = ltb a P ∷ unused_words b c

unfoldable pub content_words : (P content a b c : ℕ) → List Bool
content_words P content a b c =
    of_content record { empty = empty_words a b c; simple = simple_words a b c; particles = particles_words P a b c } content

-- An attribute row: name, required, and a type with simple content and no attributes.
unfoldable pub attribute_words : (T name must type content count : ℕ) → List Bool
attribute_words T name must type content count =
    leb name most_name ∷ leb must 1 ∷ (ltb type T && (eqb content simple && eqb count 0)) ∷ []

-- Of a particle row the three words after the kind. A child is over its parent's row p and below P.
abbrev pub child : (P p x : ℕ) → Bool
child P p x = ltb p x && ltb x P

unfoldable pub element_words : (T name type z : ℕ) → List Bool
element_words T name type z = leb name most_name ∷ ltb type T ∷ eqb z 0 ∷ []

-- a sequence or a choice: children are consecutive rows, so many at least
unfoldable pub group_words : (P least p start number z : ℕ) → List Bool
group_words P least p start number z = child P p start ∷ (within least most_children number && leb (start + number) P) ∷ eqb z 0 ∷ []

unfoldable pub occurs_words : (P p x least most : ℕ) → List Bool
occurs_words P p x least most =
    child P p x ∷ leb least most_times ∷ (eqb most unbounded || (within 1 most_times most && leb least most)) ∷ []

-- a sequence has a child at least, a choice two
unfoldable pub particle_words : (T P p kind x y z : ℕ) → List Bool
particle_words T P p kind x y z =
    of_particle_or (false ∷ false ∷ false ∷ false ∷ [])
    record {
      element = true ∷ element_words T x y z;
      sequence = true ∷ group_words P 1 p x y z;
      choice = true ∷ group_words P 2 p x y z;
      occurs = true ∷ occurs_words P p x y z;
    }
    kind

-- Form 2. D derived entries and S substitutes; a derived entry is a type, a substitute a name and a type.
unfoldable pub count_words : (D S : ℕ) → List Bool
count_words D S = leb D most_derivations ∷ leb S most_substitutes ∷ []

unfoldable pub derived_words : (T type : ℕ) → List Bool
derived_words T type = ltb type T ∷ []

unfoldable pub substitute_words : (T name type : ℕ) → List Bool
substitute_words T name type = leb name most_name ∷ ltb type T ∷ []

-- no number stands twice in a list
unfoldable pub among : ℕ → List ℕ → Bool
among x [] = false
among x (y ∷ l) = eqb x y || among x l

unfoldable pub once : List ℕ → Bool
once [] = true
once (x ∷ l) = not (among x l) && once l

-- n words from the place i on
unfoldable pub words_from : (w : ℕ → ℕ) (i n : ℕ) → List ℕ
words_from w i zero = []
words_from w i (suc n) = w i ∷ words_from w (i + 1) n

-- of a type: first derived entry and how many; each once, and never the type itself
unfoldable pub type_pair : (D t start count : ℕ) → List ℕ → List Bool
type_pair D t start count entries = leb start D ∷ (leb (start + count) D && once (t ∷ entries)) ∷ []

-- of a particle row: first substitute and how many; none but of an element
unfoldable pub row_pair : (S kind start count : ℕ) → List Bool
row_pair S kind start count =
    cond (eqb kind particle.element) (leb start S ∷ leb (start + count) S ∷ []) (eqb start 0 ∷ eqb count 0 ∷ [])

-- the tests of n rows, from row i on
unfoldable pub rows : (f : ℕ → List Bool) (i n : ℕ) → List Bool
rows f i zero = []
rows f i (suc n) = f i ++ rows f (suc i) n

-- The rows of a table of words w with T types, A attribute rows and P particle rows.
module _ (w : ℕ → ℕ) where
  unfoldable pub type_row : (A P t : ℕ) → List Bool
  type_row A P t =
      let i = type_at t in
      front_words A (w i) (w (i + 1)) (w (i + 2)) (w (i + 3)) ++ content_words P (w (i + 1)) (w (i + 4)) (w (i + 5)) (w (i + 6))

  unfoldable pub attribute_row : (T a : ℕ) → List Bool
  attribute_row T a =
      let i = attribute_at T a in
      let j = type_at (w (i + 2)) in
      attribute_words T (w i) (w (i + 1)) (w (i + 2)) (w (j + 1)) (w (j + 3))

  unfoldable pub particle_row : (T A P p : ℕ) → List Bool
  particle_row T A P p = let i = particle_at T A p in particle_words T P p (w i) (w (i + 1)) (w (i + 2)) (w (i + 3))

  unfoldable pub row_words : (T A P : ℕ) → List Bool
  row_words T A P = rows (type_row A P) 0 T ++ (rows (attribute_row T) 0 A ++ rows (particle_row T A P) 0 P)

  -- form 2's rows behind the place B, where the others end
  unfoldable pub derived_row : (T B i : ℕ) → List Bool
  derived_row T B i = derived_words T (w (derived_at B i))

  unfoldable pub substitute_row : (T B D i : ℕ) → List Bool
  substitute_row T B D i = let j = substitute_at B D i in substitute_words T (w j) (w (j + 1))

  unfoldable pub type_pair_row : (B D S t : ℕ) → List Bool
  type_pair_row B D S t =
      let j = type_pair_at B D S t in
      type_pair D t (w j) (w (j + 1)) (words_from w (derived_at B (w j)) (w (j + 1)))

  unfoldable pub row_pair_row : (T A B D S p : ℕ) → List Bool
  row_pair_row T A B D S p = let j = row_pair_at B D S T p in row_pair S (w (particle_at T A p)) (w j) (w (j + 1))

  unfoldable pub cast_words : (T A P B D S : ℕ) → List Bool
  cast_words T A P B D S =
      count_words D S
      ++ (rows (derived_row T B) 0 D
      ++ (rows (substitute_row T B D) 0 S ++ (rows (type_pair_row B D S) 0 T ++ rows (row_pair_row T A B D S) 0 P)))

  -- form 1 has none of them
  unfoldable pub form_words : (T A P : ℕ) → List Bool
  form_words T A P = let B = size_of T A P in cond (eqb (w 0) cast_form) (cast_words T A P B (w B) (w (B + 1))) []

  unfoldable pub form_size : (T A P : ℕ) → ℕ
  form_size T A P = let B = size_of T A P in cond (eqb (w 0) cast_form) (cast_size_of B (w B) (w (B + 1)) T P) B

-- the verdict on one row of a table's words, and on all rows of a kind; places are the words' own
module _ (l : List ℕ) where
  abbrev pub type_verdict : (A P t : ℕ) → Verdict
  type_verdict A P t = first (type_at t) (type_row (word_at l) A P t)

  abbrev pub attribute_verdict : (T a : ℕ) → Verdict
  attribute_verdict T a = first (attribute_at T a) (attribute_row (word_at l) T a)

  abbrev pub particle_verdict : (T A P p : ℕ) → Verdict
  particle_verdict T A P p = first (particle_at T A p) (particle_row (word_at l) T A P p)

  abbrev pub types_verdict : (A P T : ℕ) → Verdict
  types_verdict A P T = first (type_at 0) (rows (type_row (word_at l) A P) 0 T)

  abbrev pub attributes_verdict : (T A : ℕ) → Verdict
  attributes_verdict T A = first (attribute_at T 0) (rows (attribute_row (word_at l) T) 0 A)

  abbrev pub particles_verdict : (T A P : ℕ) → Verdict
  particles_verdict T A P = first (particle_at T A 0) (rows (particle_row (word_at l) T A P) 0 P)

  abbrev pub derived_verdict : (T B D : ℕ) → Verdict
  derived_verdict T B D = first (derived_at B 0) (rows (derived_row (word_at l) T B) 0 D)

  abbrev pub substitutes_verdict : (T B D S : ℕ) → Verdict
  substitutes_verdict T B D S = first (substitute_at B D 0) (rows (substitute_row (word_at l) T B D) 0 S)

  abbrev pub type_pairs_verdict : (B D S T : ℕ) → Verdict
  type_pairs_verdict B D S T = first (type_pair_at B D S 0) (rows (type_pair_row (word_at l) B D S) 0 T)

  abbrev pub row_pairs_verdict : (T A B D S P : ℕ) → Verdict
  row_pairs_verdict T A B D S P = first (row_pair_at B D S T 0) (rows (row_pair_row (word_at l) T A B D S) 0 P)

-- the length that the form gives, and no more than the largest table has
unfoldable pub length_right : (l : List ℕ) (T A P : ℕ) → Bool
length_right l T A P = eqb (length l) (form_size (word_at l) T A P) && leb (length l) most_table_words

-- The header words that are given, then the length, of which a wrong one is named at the number of words given, then every other word.
unfoldable pub verdict_from : (l : List ℕ) (T A P : ℕ) → Verdict
verdict_from l T A P =
    first 0 (header_words l) then judge (length l) (length_right l T A P)
    then first 4 (row_words (word_at l) T A P ++ form_words (word_at l) T A P)

unfoldable pub verdict : List ℕ → Verdict
verdict l = verdict_from l (types_in l) (attributes_in l) (particles_in l)

-- the length is right
pub record Sized (l : List ℕ) : Type 0 where
  pub by_form : length l ≡ form_size (word_at l) (types_in l) (attributes_in l) (particles_in l)
  pub few : length l ≤ most_table_words

-- word i is right, given the words before it
unfoldable pub right_at : List ℕ → ℕ → Bool
right_at l i =
    let T = types_in l in
    let A = attributes_in l in
    let P = particles_in l in
    get_or (header_words l ++ (row_words (word_at l) T A P ++ form_words (word_at l) T A P)) i true
