-- One row behind the rows: its verdict from the words that the code has read.
use Prim.Native.Nat.{ℕ, ◌+◌, ◌-◌, ◌≤◌, ◌<◌}
use mathlib.Core.Path.{◌≡◌, sym, ◌∙◌}
use mathlib.Core.List.{List, [], ◌∷◌}
use mathlib.Core.Bool.{Bool, true, false}
use native.Mathlib.Omega.{arith}
use native.Mathlib.Numerals.{add-one}
use borrow.Author.Tests.{lt-ltb, le-ltb, le-leb, lt-leb, eq-eqb, ne_eqb}
use lib.Dec.{leb, eqb}
use lib.ListN.{get_or, replicate, length-replicate, get_or-replicate, get_or-eq_default}
use Rattle.signed.proofs.Laws.{ordered}
use Rattle.std.specs.Prelude.{IfErr}
use Rattle.numbers.specs.Limit.{most_types, most_name}
use Rattle.numbers.specs.Particle as particle
use Rattle.table.specs.Words.{particle_at, derived_at, substitute_at, type_pair_at, row_pair_at, word_at}
use Rattle.table.specs.Stamps.{Stamped, Under}
use Rattle.table.specs.First.{Verdict, first, moved}
use Rattle.table.specs.First.Verdict.{right, wrong}
use Rattle.table.specs.Valid.{once, words_from, derived_words, substitute_words, type_pair, row_pair, derived_row, substitute_row, type_pair_row, row_pair_row}
use Rattle.table.specs.Views.{Checked, verdict_is}
use Rattle.table.proofs.Tests.{none_left, fails, holds, sum-within, sum_over}
use Rattle.table.proofs.Lines.{row-pair-length}
use Rattle.table.specs.Runs.{RunAt}
use Rattle.table.proofs.OneRow.{place-small, row-is, read}

-- a derived entry
module _ (l : List ℕ) (T B i place t : ℕ) (at : place ≡ derived_at B i) (is : t ≡ word_at l place) where
  pub entry-over : T ≤ t → wrong place ≡ first (derived_at B i) (derived_row (word_at l) T B i)
  unfolding derived_row derived_words
  entry-over h = rw (← at, ← is) (fails place _ [] (le-ltb _ _ h))

  pub entry_known : t < T → right ≡ first (derived_at B i) (derived_row (word_at l) T B i)
  unfolding derived_row derived_words
  entry_known h = rw (← at, ← is) (holds place _ [] _ (lt-ltb _ _ h) (none_left _))

pub ruleset entry-ways = (entry-over, entry_known)

-- two tests from a place on
module _ (place : ℕ) (x y : Bool) where
  later-fails : x ≡ true → y ≡ false → wrong (place + 1) ≡ first place (x ∷ y ∷ [])
  later-fails e f = holds place x _ _ e (rw (← add-one place) (fails (place + 1) y [] f))

  both_right : x ≡ true → y ≡ true → right ≡ first place (x ∷ y ∷ [])
  both_right e f = holds place x _ _ e (holds _ y [] _ f (none_left _))

-- a substitute
module _ (l : List ℕ) (T B D i place later name t : ℕ) (at : place ≡ substitute_at B D i) (next : later ≡ place + 1)
    (is : name ≡ word_at l place) (of : t ≡ word_at l later) where
  substitute-words : substitute_words T name t ≡ substitute_row (word_at l) T B D i
  unfolding substitute_row
  substitute-words = rw (is, of, next, at)

  pub name-over : most_name < name → wrong place ≡ first (substitute_at B D i) (substitute_row (word_at l) T B D i)
  unfolding substitute_words
  name-over h = rw (← at, ← substitute-words) (fails place _ _ (lt-leb _ _ h))

  module _ (small : name ≤ most_name) where
    pub type-over : T ≤ t → wrong later ≡ first (substitute_at B D i) (substitute_row (word_at l) T B D i)
    unfolding substitute_words
    type-over h = rw (← at, ← substitute-words, next) (later-fails place _ _ (le-leb _ _ small) (le-ltb _ _ h))

    pub type_known : t < T → right ≡ first (substitute_at B D i) (substitute_row (word_at l) T B D i)
    unfolding substitute_words
    type_known h = rw (← at, ← substitute-words) (both_right place _ _ (le-leb _ _ small) (lt-ltb _ _ h))

pub ruleset substitute-ways = (name-over, type-over, type_known)

-- the entries of a type have stamps, as all entries have; a stamp that is not over t is not over t + 1
pub stamped-part : (l : List ℕ) (B D start count from : ℕ) → Stamped l (derived_at B 0) D → start ≤ D → count ≤ D - start → from ≡ B + 2 + start → Stamped l from count
stamped-part l B D start count from s low high on =
    record {
      each = λ k h. let q : derived_at B 0 + (start + k) ≡ from + k = omega arith in rw q at (s.each (start + k) (omega arith));
    }

pub under_next : (t : ℕ) (stamps : List ℕ) → Under t stamps → Under (t + 1) stamps
under_next t stamps u = record { long = u.long; each = λ x. omega (arith, u.each x) }

-- stamps that nobody has given
clear_at : (n i : ℕ) → get_or {A = ℕ} (replicate n 0) i 0 ≤ 0
clear_at n i =
    ordered i n (λ h. omega (arith, get_or-replicate {A = ℕ} n i 0 0 h))
    (λ h. omega (arith, get_or-eq_default {A = ℕ} (replicate n 0) 0 {n = i} (omega (arith, length-replicate {A = ℕ} n 0))))

pub under-clear : Under 0 (replicate most_types 0)
under-clear = record { long = length-replicate {A = ℕ} most_types 0; each = clear_at most_types }

-- a type's pair
module _ (l : List ℕ) (B D S t place later start count : ℕ) (at : place ≡ type_pair_at B D S t) (next : later ≡ place + 1)
    (is : start ≡ word_at l place) (of : count ≡ word_at l later) where
  type-words : type_pair D t start count (words_from (word_at l) (derived_at B start) count) ≡ type_pair_row (word_at l) B D S t
  unfolding type_pair_row
  type-words = rw (is, of, next, at)

  pub start-over : D < start → wrong place ≡ first (type_pair_at B D S t) (type_pair_row (word_at l) B D S t)
  unfolding type_pair
  start-over h = rw (← at, ← type-words) (fails place _ _ (lt-leb _ _ h))

  module _ (low : start ≤ D) where
    pub count-over : D - start < count → wrong later ≡ first (type_pair_at B D S t) (type_pair_row (word_at l) B D S t)
    unfolding type_pair
    count-over h = rw (← at, ← type-words, next) (later-fails place _ _ (le-leb _ _ low) (rw (sum_over start count D low h)))

    module _ (high : count ≤ D - start) (from : ℕ) (on : from ≡ B + 2 + start) (r : Bool) (e : r ≡ once (t ∷ words_from (word_at l) from count)) where
      different : r ≡ once (t ∷ words_from (word_at l) (derived_at B start) count)
      different = rw (← on) e

      pub type-twice : r ≡ false → wrong later ≡ first (type_pair_at B D S t) (type_pair_row (word_at l) B D S t)
      unfolding type_pair
      type-twice f =
          rw (← at, ← type-words, next)
          (later-fails place _ _ (le-leb _ _ low) (rw (sum-within start count D low high) (sym different ∙ f)))

      pub type-once : r ≡ true → right ≡ first (type_pair_at B D S t) (type_pair_row (word_at l) B D S t)
      unfolding type_pair
      type-once f =
          rw (← at, ← type-words)
          (both_right place _ _ (le-leb _ _ low) (rw (sum-within start count D low high) (sym different ∙ f)))

-- the tests of a particle row's pair
module _ (i S kind start count : ℕ) (v : Verdict) where
  pub pair-of-element : kind ≡ particle.element → v ≡ first i (leb start S ∷ leb (start + count) S ∷ []) → v ≡ first i (row_pair S kind start count)
  unfolding row_pair
  pair-of-element e f = f ∙ sym (rw (eq-eqb _ _ e))

  pub pair-of-other : (kind ≡ particle.element → ⊥) → v ≡ first i (eqb start 0 ∷ eqb count 0 ∷ []) → v ≡ first i (row_pair S kind start count)
  unfolding row_pair
  pair-of-other n f = f ∙ sym (rw (ne_eqb _ _ n))

pub ruleset row-words-ways = (pair-of-element, pair-of-other)

-- a particle row's pair, and its row's kind
module _ (l : List ℕ) (T A B D S p base row kind : ℕ) (w : List ℕ) (at : base ≡ row_pair_at B D S T p) (words : RunAt l base 2 w)
    (which : row ≡ particle_at T A p) (says : kind ≡ word_at l row) (r : Checked) (f : verdict_is r ≡ first 0 (row_pair S kind (word_at w 0) (word_at w 1))) where
  row_words : row_pair S kind (word_at w 0) (word_at w 1) ≡ row_pair_row (word_at l) T A B D S p
  unfolding row_pair_row
  row_words = rw (read words 0 base (omega arith) (omega arith), read words 1 (base + 1) (omega arith) (omega arith), says, which, at)

  pub row-pair-small : IfErr r (λ e. e.0 < 8)
  row-pair-small = place-small _ (omega (arith, row-pair-length S kind (word_at w 0) (word_at w 1))) r f

  pub row-pair-is : (v : Verdict) → v ≡ moved base (verdict_is r) → v ≡ first (row_pair_at B D S T p) (row_pair_row (word_at l) T A B D S p)
  row-pair-is v g = g ∙ rw at (row-is (row_pair_at B D S T p) _ _ row_words _ f)
