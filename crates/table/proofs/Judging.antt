-- Rows judged whole: words joined over rows, a row that is right by what is known of its words, and the loops over such rows.
use Prim.Native.Nat.{ℕ, ◌+◌, ◌≤◌, ◌<◌}
use mathlib.Core.Path.{◌≡◌, refl, sym, ◌∙◌}
use mathlib.Core.List.{List}
use mathlib.Core.Bool.{Bool, true, false, ◌&&◌, ◌||◌, true≢false}
use native.Mathlib.Omega.{arith}
use borrow.Author.Tests.{lt-ltb, le-leb, eq-eqb, ne_eqb, leb-true}
use lib.Bits.{bit_or, and_le_l, and_le_r, or_add_and}
use lib.Dec.{leb, eqb}
use Rattle.numbers.specs.Content.{simple}
use Rattle.numbers.specs.Limit.{most_name, most_times, most_children, unbounded}
use Rattle.numbers.specs.Particle.{element, occurs}
use Rattle.signed.proofs.Laws.{ordered}
use Rattle.table.specs.First.{first}
use Rattle.table.specs.First.Verdict.{right}
use Rattle.table.specs.Judged.{Judged}
use Rattle.table.specs.Valid.{within, attribute_words, element_words, group_words, occurs_words, particle_words, attribute_row, particle_row}
use Rattle.std.specs.Prelude.{Ok}
use Rattle.table.specs.Words.{type_at, attribute_at, particle_at, word_at}
use Rattle.table.proofs.Choices.{is-element, is-sequence, is-choice, is-occurs}
use Rattle.table.proofs.Lines.{Lined, attributes-lined}
use Rattle.table.proofs.OneRow.{row-is, particle-row-words}
use Rattle.table.specs.Runs.{RunAt}
use Rattle.table.proofs.Tests.{none_left, holds, both_hold, left-holds, right-holds}
use Rattle.table.proofs.Turns.{Left, turn-right}

-- a no promises nothing
pub no-tells-nothing : {A : Type 0} → false ≡ true → A
no-tells-nothing e = absurd (true≢false (sym e))

-- a joint is as great as each of its words
module _ (x y : ℕ) where
  pub joint-left : x ≤ bit_or x y
  joint-left = omega (arith, or_add_and x y, and_le_r x y)

  pub joint-right : y ≤ bit_or x y
  joint-right = omega (arith, or_add_and x y, and_le_l x y)

-- the words of an attribute row that begins at i, and of its type's row at j
module _ (l : List ℕ) (T a i j : ℕ) (at : i ≡ attribute_at T a) (at' : j ≡ type_at (word_at l (i + 2)))
    (known : word_at l (i + 2) < T) (plain : word_at l (j + 1) ≡ simple) where
  attribute-words : attribute_words T (word_at l i) (word_at l (i + 1)) (word_at l (i + 2)) (word_at l (j + 1)) (word_at l (j + 3)) ≡ attribute_row (word_at l) T a
  unfolding attribute_row
  attribute-words = rw (at', at)

  module _ (small : word_at l i ≤ most_name) (must : word_at l (i + 1) ≤ 1) (bare : word_at l (j + 3) ≡ 0) where
    attribute-tests : right ≡ first 0 (attribute_words T (word_at l i) (word_at l (i + 1)) (word_at l (i + 2)) (word_at l (j + 1)) (word_at l (j + 3)))
    unfolding attribute_words
    attribute-tests =
        holds 0 _ _ _ (le-leb _ _ small)
        (holds 1 _ _ _ (le-leb _ _ must)
        (holds 2 _ _ _ (both_hold _ _ (lt-ltb _ _ known) (both_hold _ _ (eq-eqb _ _ plain) (eq-eqb _ _ bare))) (none_left 3)))

    attribute-is-right : right ≡ first (attribute_at T a) (attribute_row (word_at l) T a)
    attribute-is-right = row-is (attribute_at T a) _ _ attribute-words right attribute-tests

  -- a turn of the loop over them
  pub attribute-turn : (A names musts counts : ℕ)
      → (names ≤ most_name → musts ≤ 1 → counts ≡ 0 → Left (attribute_at T) (attribute_row (word_at l) T) A a)
      → a < A
      → bit_or names (word_at l i) ≤ most_name → bit_or musts (word_at l (i + 1)) ≤ 1 → bit_or counts (word_at l (j + 3)) ≡ 0
      → Left (attribute_at T) (attribute_row (word_at l) T) A (a + 1)
  attribute-turn A names musts counts left h n m c =
      turn-right (attribute_at T) _ (attributes-lined (word_at l) T) A a
      (left (omega (arith, joint-left names (word_at l i))) (omega (arith, joint-left musts (word_at l (i + 1)))) (omega (arith, joint-left counts (word_at l (j + 3)))))
      h (Ok tt)
      (attribute-is-right
      (omega (arith, joint-right names (word_at l i)))
      (omega (arith, joint-right musts (word_at l (i + 1))))
      (omega (arith, joint-right counts (word_at l (j + 3)))))
      refl

-- the words of a particle row after its kind
element-tests : (T x y z : ℕ) → x ≤ most_name → y < T → z ≡ 0 → right ≡ first 1 (element_words T x y z)
unfolding element_words
element-tests T x y z small known zero =
    holds 1 _ _ _ (le-leb _ _ small) (holds 2 _ _ _ (lt-ltb _ _ known) (holds 3 _ _ _ (eq-eqb _ _ zero) (none_left 4)))

most-test : (y z : ℕ) → y ≤ z → (z ≡ 0 → ⊥) → z ≤ unbounded → (eqb z unbounded || (within 1 most_times z && leb y z)) ≡ true
most-test y z h some few =
    ordered z unbounded
    (λ g.
    right-holds (eqb z unbounded) _ (ne_eqb z unbounded (λ e. omega arith))
    (both_hold (within 1 most_times z) _ (both_hold (leb 1 z) _ (le-leb 1 z (omega arith)) (le-leb z most_times (omega arith))) (le-leb y z h)))
    (λ g. left-holds (eqb z unbounded) _ (eq-eqb z unbounded (omega arith)))

occurs-tests : (P p x y z : ℕ) → p < x → x < P → y ≤ most_times → y ≤ z → (z ≡ 0 → ⊥) → z ≤ unbounded → right ≡ first 1 (occurs_words P p x y z)
unfolding occurs_words
occurs-tests P p x y z over inside small h some few =
    holds 1 _ _ _ (both_hold _ _ (lt-ltb _ _ over) (lt-ltb _ _ inside))
    (holds 2 _ _ _ (le-leb _ _ small) (holds 3 _ _ _ (most-test y z h some few) (none_left 4)))

group-tests : (P least p x y z : ℕ) → 1 ≤ least → least ≤ y → y ≤ most_children → p < x → x + y ≤ P → z ≡ 0 → right ≡ first 1 (group_words P least p x y z)
unfolding group_words
group-tests P least p x y z some enough few over inside zero =
    let below : x < P = omega arith in
    holds 1 _ _ _ (both_hold _ _ (lt-ltb _ _ over) (lt-ltb _ _ below))
    (holds 2 _ _ _ (both_hold _ _ (both_hold _ _ (le-leb _ _ enough) (le-leb _ _ few)) (le-leb _ _ inside)) (holds 3 _ _ _ (eq-eqb _ _ zero) (none_left 4)))

-- the words of a particle row that begins at i
module _ (l : List ℕ) (T A P p i : ℕ) (w : List ℕ) (at : i ≡ particle_at T A p) (words : RunAt l i 4 w) where
  abbrev kind : ℕ
  kind = word_at w 0

  abbrev x : ℕ
  x = word_at w 1

  abbrev y : ℕ
  y = word_at w 2

  abbrev z : ℕ
  z = word_at w 3

  particle-is-right : right ≡ first 0 (particle_words T P p kind x y z) → first (particle_at T A p) (particle_row (word_at l) T A P p) ≡ right
  particle-is-right tests = sym (row-is (particle_at T A p) _ _ (particle-row-words l T A P p i w at words) right tests)

  module _ (small zeros : ℕ) where
    pub element-judged : word_at w 0 ≡ element → word_at w 2 < T
        → Judged small zeros (bit_or small (word_at w 1)) (bit_or zeros (word_at w 3)) (first (particle_at T A p) (particle_row (word_at l) T A P p))
    element-judged e known =
        record {
          small_kept = joint-left small x;
          zeros_kept = joint-left zeros z;
          told = λ g h.
              particle-is-right (is-element T P p kind x y z right e (element-tests T x y z (omega (arith, joint-right small x)) known (omega (arith, joint-right zeros z))));
        }

    module _ (over : p < word_at w 1) where
      pub occurs-judged : word_at w 0 ≡ occurs → word_at w 1 < P → word_at w 2 ≤ word_at w 3 → (word_at w 3 ≡ 0 → ⊥) → word_at w 3 ≤ unbounded
          → Judged small zeros (bit_or small (word_at w 2)) zeros (first (particle_at T A p) (particle_row (word_at l) T A P p))
      occurs-judged e inside h some few =
          record {
            small_kept = joint-left small y;
            zeros_kept = omega arith;
            told = λ g k.
                particle-is-right (is-occurs T P p kind x y z right e (occurs-tests P p x y z over inside (omega (arith, joint-right small y)) h some few));
          }

      pub group-judged : (word_at w 0 ≡ element → ⊥) → (word_at w 0 ≡ occurs → ⊥) → word_at w 0 ≤ occurs
          → word_at w 0 ≤ word_at w 2 → word_at w 2 ≤ most_children → (r : Bool) → r ≡ leb (word_at w 1 + word_at w 2) P → r ≡ true
          → Judged small zeros small (bit_or zeros (word_at w 3)) (first (particle_at T A p) (particle_row (word_at l) T A P p))
      group-judged n m group enough few r is e =
          record {
            small_kept = omega arith;
            zeros_kept = joint-left zeros z;
            told = λ g h. particle-is-right (by_kind (omega (arith, joint-right zeros z)));
          }
        where
          inside : x + y ≤ P
          inside = leb-true _ _ (sym is ∙ e)

          by_kind : z ≡ 0 → right ≡ first 0 (particle_words T P p kind x y z)
          by_kind zero =
              ordered kind 2
              (λ h. is-sequence T P p kind x y z right (omega arith) (group-tests P 1 p x y z (omega arith) (omega arith) few over inside zero))
              (λ h. is-choice T P p kind x y z right (omega arith) (group-tests P 2 p x y z (omega arith) (omega arith) few over inside zero))

pub ruleset judging-ways = (element-judged, occurs-judged)

-- a turn of a loop whose rows are judged so
pub judged-turn : (place : ℕ → ℕ) (f : ℕ → List Bool) → Lined place f → (N i small zeros small' zeros' : ℕ)
    → (small ≤ most_name → zeros ≡ 0 → Left place f N i) → i < N → Judged small zeros small' zeros' (first (place i) (f i))
    → small' ≤ most_name → zeros' ≡ 0 → Left place f N (i + 1)
judged-turn place f lined N i small zeros small' zeros' left h judged s z =
    turn-right place f lined N i (left (omega (arith, judged.small_kept)) (omega (arith, judged.zeros_kept))) h (Ok tt) (sym (judged.told s z)) refl
