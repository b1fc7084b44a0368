-- One more turn of each loop over a buffer.
use Prim.Native.Nat.{ℕ, suc, ◌+◌, ◌-◌, ◌*◌, ◌/◌, ◌≤◌, ◌<◌}
use mathlib.Core.Path.{◌≡◌, refl, sym, ap, ◌∙◌}
use mathlib.Core.List.{List, [], ◌∷◌, ◌++◌, append-nil, append_assoc}
use native.Mathlib.Omega.{arith}
use native.Mathlib.Numerals.{add-one}
use borrow.Rule.Slice.PartMut.{put_mid, Post-is}
use lib.ListN.{length, get_or, set, take, drop}
use lib.Seq.{sets, sets-eq, set_at, take-suc, drop-cons, take_all, length-take-le, drop-length}
use Rattle.buffers.specs.Bytes.{word_from, four, words_of, spelled, bytes_of}
use Rattle.buffers.proofs.BytesLaws.{words-length, word_at, spelled-length, spelled-more}

-- words loaded at the front
pub loaded-more : (s words loaded : List ℕ) (i w : ℕ) → i < length words → i < length s / 4 → w ≡ word_from s (4 * i)
    → loaded ≡ take i (words_of s) ++ drop i words → set loaded i w ≡ take (i + 1) (words_of s) ++ drop (i + 1) words
loaded-more s words loaded i w h g e f =
    let W = words_of s in
    let b : i < length W = omega (arith, words-length s) in
    let front : take i W ++ w ∷ [] ≡ take (suc i) W = sym (take-suc W i 0 b ∙ ap (λ (x : ℕ). take i W ++ x ∷ []) (word_at s i g ∙ sym e)) in
    ap (λ (x : List ℕ). set x i w) (f ∙ ap (λ (x : List ℕ). take i W ++ x) (drop-cons words i 0 h))
    ∙ set_at (take i W) (get_or words i 0) (drop (suc i) words) w i (length-take-le i W (omega arith))
    ∙ sym (append_assoc (take i W) (w ∷ []) (drop (suc i) words))
    ∙ rw (add-one i) (ap (λ (x : List ℕ). x ++ drop (suc i) words) front)

-- two words more, laid down at once
pub loaded-two : (s words loaded after : List ℕ) (i next : ℕ) → i + 2 ≡ next → next ≤ length words → next ≤ length s / 4
    → loaded ≡ take i (words_of s) ++ drop i words → after ≡ sets loaded i (word_from s (4 * i) ∷ word_from s (4 * i + 4) ∷ [])
    → after ≡ take next (words_of s) ++ drop next words
loaded-two s words loaded after i next e h g f l =
    let one = loaded-more s words loaded i (word_from s (4 * i)) (omega arith) (omega arith) refl f in
    let at : 4 * i + 4 ≡ 4 * (i + 1) = omega arith in
    let two = loaded-more s words _ (i + 1) (word_from s (4 * i + 4)) (omega arith) (omega arith) (ap (word_from s) at) one in
    let end : i + 1 + 1 ≡ next = omega arith in
    l ∙ rw (← add-one i) (rw end at two)

-- numbers of k bytes each stored from the front
module _ (f : ℕ → List ℕ) (k : ℕ) (wide : (x : ℕ) → length (f x) ≡ k) (l b : List ℕ) where
  pub stored-none : b ≡ spelled f (take 0 l) ++ drop 0 b
  unfolding spelled
  stored-none = refl

  pub stored_more : (s s' : List ℕ) (i at next : ℕ) → i < length l → i * k ≡ at → at + k ≡ next → next ≤ length b
      → s ≡ spelled f (take i l) ++ drop at b → s' ≡ sets s at (f (get_or l i 0)) → s' ≡ spelled f (take (i + 1) l) ++ drop next b
  stored_more s s' i at next h p q r e g =
      let n : length (spelled f (take i l)) ≡ at = spelled-length f k wide (take i l) ∙ ap (λ (j : ℕ). j * k) (length-take-le i l (omega arith)) ∙ p in
      g ∙ ap (λ (x : List ℕ). sets x at (f (get_or l i 0))) e ∙ spelled-more f l b i at next h n (omega (arith, wide (get_or l i 0))) r

  pub stored-all : (s : List ℕ) (i at : ℕ) → length l ≤ i → s ≡ spelled f (take i l) ++ drop at b → s ≡ spelled f l ++ drop at b
  stored-all s i at h e = e ∙ ap (λ (x : List ℕ). spelled f x ++ drop at b) (take_all i l h)

-- one word more at its place
pub stored_one : (l b s s' : List ℕ) (i next : ℕ) → i + 1 ≡ next → i < length l → 4 * length l ≤ length b
    → s ≡ bytes_of (take i l) ++ drop (4 * i) b → s' ≡ sets s (4 * i) (four (get_or l i 0)) → s' ≡ bytes_of (take next l) ++ drop (4 * next) b
stored_one l b s s' i next n h r e g =
    rw n at (stored_more four 4 (λ x. refl) l b s s' i (4 * i) (4 * (i + 1)) h (omega arith) (omega arith) (omega arith) e g)

-- numbers put in place of a part
pub part_put : (s ys m : List ℕ) (at end : ℕ) → end ≤ length s → at + length ys ≡ end → m ≡ ys → put_mid at (end - at) s m ≡ sets s at ys
part_put s ys m at end h n e =
    ap (λ (x : List ℕ). take at s ++ (x ++ drop (end - at) (drop at s))) e
    ∙ ap (λ (x : List ℕ). take at s ++ (ys ++ x)) (Post-is at end s (omega arith))
    ∙ sym (append_assoc (take at s) ys (drop end s))
    ∙ ap (λ (x : ℕ). take at s ++ ys ++ drop x s) (sym n)
    ∙ sym (sets-eq ys s at (omega arith))

-- a part that was lent from a place to the end is back
pub tail-back : (a : ℕ) (xs ys : List ℕ) → a ≤ length xs → put_mid a (length xs - a) xs ys ≡ take a xs ++ ys
tail-back a xs ys h = ap (λ (z : List ℕ). take a xs ++ (ys ++ z)) (Post-is a (length xs) xs h ∙ drop-length xs) ∙ ap (λ (z : List ℕ). take a xs ++ z) (append-nil ys)
