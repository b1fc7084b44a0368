-- Which tests a kind or a content chooses, and the ends of a range.
use Prim.Native.Nat.{ℕ, suc, ◌-◌}
use mathlib.Core.Path.{◌≡◌, refl, sym, ap, ◌∙◌}
use mathlib.Core.List.{[]}
use mathlib.Core.Bool.{true}
use native.Mathlib.Omega.{arith}
use borrow.Author.Tests.{le-leb, lt-leb, eq-eqb, ne_eqb}
use Rattle.signed.specs.Words.{gap_of}
use Rattle.signed.specs.Views.{gap_is}
use Rattle.signed.proofs.Laws.{over-gap, under-gap}
use Rattle.std.specs.Prelude.{Option, None, Some}
use Rattle.table.specs.First.{Verdict, first}
use Rattle.table.specs.First.Verdict.{right, wrong}
use Rattle.numbers.specs.Simple.{ranged, enumeration}
use Rattle.table.specs.Valid.{unused_words, range_words, enumeration_words, kind_words, empty_words, simple_words, particles_words, content_words, element_words, group_words, occurs_words, particle_words}
use Rattle.table.proofs.Tests.{none_left, fails, holds}

-- the tests that a simple kind chooses
module _ (i kind b c : ℕ) (v : Verdict) where
  pub kind-ranged : kind ≡ ranged → v ≡ first i (range_words b c) → v ≡ first i (kind_words kind b c)
  unfolding kind_words
  kind-ranged e f = f ∙ sym (rw (eq-eqb _ _ e))

  pub kind-enumeration : (kind ≡ ranged → ⊥) → kind ≡ enumeration → v ≡ first i (enumeration_words b c) → v ≡ first i (kind_words kind b c)
  unfolding kind_words
  kind-enumeration n e f = f ∙ sym (rw (ne_eqb _ _ n, eq-eqb _ _ e))

  pub kind-plain : (kind ≡ ranged → ⊥) → (kind ≡ enumeration → ⊥) → v ≡ first i (unused_words b c) → v ≡ first i (kind_words kind b c)
  unfolding kind_words
  kind-plain n m f = f ∙ sym (rw (ne_eqb _ _ n, ne_eqb _ _ m))

pub ruleset kind-ways = (kind-ranged, kind-enumeration, kind-plain)

-- a range's ends
module _ (b c : ℕ) (r : Option ℕ) (e : gap_is r ≡ gap_of b c) where
  pub ends-over : r ≡ None → wrong 6 ≡ first 5 (range_words b c)
  unfolding range_words
  ends-over u = holds 5 true _ _ refl (fails 6 _ [] (lt-leb _ _ (under-gap b c (sym e ∙ ap gap_is u))))

  pub ends-right : (k : ℕ) → r ≡ Some k → right ≡ first 5 (range_words b c)
  unfolding range_words
  ends-right k u = holds 5 true _ _ refl (holds 6 _ [] _ (le-leb _ _ (over-gap b c k (sym e ∙ ap gap_is u)).0) (none_left 7))

pub ruleset ends-ways = (ends-over, ends-right)

-- the tests that a content chooses
module _ (i P content a b c : ℕ) (v : Verdict) where
  pub content-empty : content ≡ 0 → v ≡ first i (empty_words a b c) → v ≡ first i (content_words P content a b c)
  unfolding content_words
  content-empty e f = f ∙ sym (rw e)

  pub content-simple : content ≡ 1 → v ≡ first i (simple_words a b c) → v ≡ first i (content_words P content a b c)
  unfolding content_words
  content-simple e f = f ∙ sym (rw e)

  pub content-particles : (content ≡ 0 → ⊥) → (content ≡ 1 → ⊥) → v ≡ first i (particles_words P a b c) → v ≡ first i (content_words P content a b c)
  unfolding content_words
  content-particles n m f = f ∙ sym (let e : content ≡ suc (suc (content - 2)) = omega arith in rw e)

pub ruleset content-ways = (content-empty, content-simple, content-particles)

-- the tests that a particle's kind chooses
module _ (T P p kind x y z : ℕ) where
  module _ (v : Verdict) where
    pub is-element : kind ≡ 0 → v ≡ first 1 (element_words T x y z) → v ≡ first 0 (particle_words T P p kind x y z)
    unfolding particle_words first
    is-element e f = f ∙ sym (rw e)

    pub is-sequence : kind ≡ 1 → v ≡ first 1 (group_words P 1 p x y z) → v ≡ first 0 (particle_words T P p kind x y z)
    unfolding particle_words first
    is-sequence e f = f ∙ sym (rw e)

    pub is-choice : kind ≡ 2 → v ≡ first 1 (group_words P 2 p x y z) → v ≡ first 0 (particle_words T P p kind x y z)
    unfolding particle_words first
    is-choice e f = f ∙ sym (rw e)

    pub is-occurs : kind ≡ 3 → v ≡ first 1 (occurs_words P p x y z) → v ≡ first 0 (particle_words T P p kind x y z)
    unfolding particle_words first
    is-occurs e f = f ∙ sym (rw e)

  pub is_none : (kind ≡ 0 → ⊥) → (kind ≡ 1 → ⊥) → (kind ≡ 2 → ⊥) → (kind ≡ 3 → ⊥) → wrong 0 ≡ first 0 (particle_words T P p kind x y z)
  unfolding particle_words first
  is_none n₀ n₁ n₂ n₃ = sym (let e : kind ≡ suc (suc (suc (suc (kind - 4)))) = omega arith in rw e)

pub ruleset particle-ways = (is-element, is-sequence, is-choice, is-occurs, is_none)
