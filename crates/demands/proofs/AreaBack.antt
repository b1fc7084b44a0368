-- An area is read back: its six words, and the names after them.
use Prim.Native.Nat.{ℕ, zero, suc, ◌+◌, ◌*◌}
use mathlib.Core.Path.{◌≡◌, refl, sym, ap, ◌∙◌}
use mathlib.Core.List.{List, [], ◌∷◌, ◌++◌}
use native.Mathlib.Omega.{arith}
use lib.ListN.{length, get_or}
use lib.Seq.{get_or-append-add, ext_get_or}
use Rattle.numbers.specs.Limit.{most_names}
use Rattle.model.specs.Whole.{Outcome, filled}
use Rattle.buffers.specs.Bytes.{spelled, word_from, half_from, bytes_of, names_of}
use Rattle.call_parts.specs.Area.{area_of, area_words, mode_at, events_at, text_at, bits_at, count_at, names_at}
use Rattle.demands.specs.Demands.{Fetches, with_place_word}
use Rattle.call_parts.proofs.Names.{filled_at}

-- a number that stands past the first bytes
pub half-past : (a b : List ℕ) (j : ℕ) → half_from (a ++ b) (length a + j) ≡ half_from b j
half-past a b j =
    let e : length a + j + 1 ≡ length a + (j + 1) = omega arith in rw (e, get_or-append-add a b j 0, get_or-append-add a b (j + 1) 0)

pub word-past : (a b : List ℕ) (j : ℕ) → word_from (a ++ b) (length a + j) ≡ word_from b j
word-past a b j =
    let e₁ : length a + j + 1 ≡ length a + (j + 1) = omega arith in
    let e₂ : length a + j + 2 ≡ length a + (j + 2) = omega arith in
    let e₃ : length a + j + 3 ≡ length a + (j + 3) = omega arith in
    let at : (i : ℕ) → get_or (a ++ b) (length a + i) 0 ≡ get_or b i 0 = λ i. get_or-append-add a b i 0 in
    rw (e₁, e₂, e₃, at j, at (j + 1), at (j + 2), at (j + 3))

name-at : (l : List ℕ) (i : ℕ) → half_from (names_of l) (2 * i) ≡ get_or l i 0
unfolding spelled
name-at [] i = refl
name-at (x ∷ l) zero = omega arith
name-at (x ∷ l) (suc i) =
    let f : 2 * suc i + 1 ≡ suc (suc (2 * i + 1)) = omega arith in
    let e : 2 * suc i ≡ suc (suc (2 * i)) = omega arith in
    rw (f, e) (name-at l i)

pub area-fetches : (o : Outcome) → Fetches (area_of o) o
unfolding area_of spelled
area-fetches o = record {
  place = omega arith;
  mode = omega arith;
  events = omega arith;
  text = omega arith;
  bits = omega arith;
  names = omega arith;
  name = λ i.
      half-past (bytes_of (area_words o)) (names_of (filled most_names o.path)) (2 * i)
      ∙ name-at (filled most_names o.path) i ∙ sym (filled_at most_names o.path i);
}

pub area-one : (o o' : Outcome) → o.number ≡ o'.number → area_of o ≡ area_of o' → with_place_word o ≡ with_place_word o'
area-one o o' n e =
    let f = area-fetches o in
    let g = area-fetches o' in
    let word : (i : ℕ) → word_from (area_of o) i ≡ word_from (area_of o') i = λ i. ap (λ (A : List ℕ). word_from A i) e in
    let place = sym f.place ∙ word 0 ∙ g.place in
    let mode = sym f.mode ∙ word mode_at ∙ g.mode in
    let events = sym f.events ∙ word events_at ∙ g.events in
    let text = sym f.text ∙ word text_at ∙ g.text in
    let bits = sym f.bits ∙ word bits_at ∙ g.bits in
    let path : o.path ≡ o'.path = ext_get_or 0 o.path o'.path (sym f.names ∙ word count_at ∙ g.names)
    (λ i h. sym (f.name i) ∙ ap (λ (A : List ℕ). half_from A (names_at + 2 * i)) e ∙ g.name i) in
    λ i. record { number = n i; place = place i; mode = mode i; events = events i; text = text i; bits = bits i; path = path i }
