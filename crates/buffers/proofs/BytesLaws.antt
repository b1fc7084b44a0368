-- Laws of words and bytes: lengths, the word at a place, one more number at the end, and that the two directions undo each other.
use Prim.Native.Nat.{ℕ, zero, suc, ◌+◌, ◌*◌, ◌/◌, ◌%◌, ◌≤◌, ◌<◌}
use mathlib.Core.Path.{◌≡◌, refl, sym, ap, ◌∙◌}
use mathlib.Core.List.{List, [], ◌∷◌, ◌++◌, append_assoc, append-nil}
use native.Mathlib.Omega.{arith}
use native.Mathlib.Nat.{suc-mul}
use native.Mathlib.Numerals.{add-one}
use lib.ListN.{length, get_or, take, drop, replicate, length-append, length-drop}
use lib.Seq.{sets, sets-eq, take-suc, take_at, drop_at, drop-drop, length-take-le}
use Rattle.buffers.specs.Bytes.{word, word_from, four, two, words_of, spelled, bytes_of, names_of}

pub words-length : (s : List ℕ) → length (words_of s) ≡ length s / 4
unfolding words_of
words-length [] = refl
words-length (a ∷ []) = refl
words-length (a ∷ b ∷ []) = refl
words-length (a ∷ b ∷ c ∷ []) = refl
words-length (a ∷ b ∷ c ∷ d ∷ s) = let h = words-length s in omega arith

shifted : (a b c d : ℕ) (s : List ℕ) (i : ℕ) → get_or (a ∷ b ∷ c ∷ d ∷ s) (4 + i) 0 ≡ get_or s i 0
shifted a b c d s i = let e : 4 + i ≡ suc (suc (suc (suc i))) = omega arith in rw e

from-shifted : (a b c d : ℕ) (s : List ℕ) (i j : ℕ) → j ≡ 4 + i → word_from (a ∷ b ∷ c ∷ d ∷ s) j ≡ word_from s i
from-shifted a b c d s i j e =
    let e₁ : j + 1 ≡ 4 + (i + 1) = omega arith in
    let e₂ : j + 2 ≡ 4 + (i + 2) = omega arith in
    let e₃ : j + 3 ≡ 4 + (i + 3) = omega arith in
    rw (e₁, e₂, e₃, e, shifted a b c d s i, shifted a b c d s (i + 1), shifted a b c d s (i + 2), shifted a b c d s (i + 3))

pub word_at : (s : List ℕ) (i : ℕ) → i < length s / 4 → get_or (words_of s) i 0 ≡ word_from s (4 * i)
unfolding words_of
word_at [] i h = absurd (omega arith)
word_at (a ∷ []) i h = absurd (omega arith)
word_at (a ∷ b ∷ []) i h = absurd (omega arith)
word_at (a ∷ b ∷ c ∷ []) i h = absurd (omega arith)
word_at (a ∷ b ∷ c ∷ d ∷ s) zero h = refl
word_at (a ∷ b ∷ c ∷ d ∷ s) (suc i) h =
    word_at s i (omega arith) ∙ sym (from-shifted a b c d s (4 * i) (4 * suc i) (omega arith))

-- the front of so many words
pub words-front : (s : List ℕ) (n : ℕ) → n ≤ length s / 4 → length (take n (words_of s)) ≡ n
words-front s n h = length-take-le n (words_of s) (omega (arith, words-length s))

-- the front of a buffer that n words were loaded into
pub loaded-front : (s words loaded : List ℕ) (n : ℕ) → loaded ≡ take n (words_of s) ++ drop n words → n ≤ length s / 4 → take n loaded ≡ take n (words_of s)
loaded-front s words loaded n e h =
    ap (take n) e ∙ take_at (take n (words_of s)) (drop n words) n (words-front s n h)

-- every number takes k bytes
pub spelled-length : (f : ℕ → List ℕ) (k : ℕ) → ((x : ℕ) → length (f x) ≡ k) → (l : List ℕ) → length (spelled f l) ≡ length l * k
unfolding spelled
spelled-length f k wide [] = omega arith
spelled-length f k wide (x ∷ l) =
    let h = spelled-length f k wide l in
    length-append (f x) (spelled f l) ∙ omega (arith, wide x, suc-mul (length l) k)

pub bytes-length : (l : List ℕ) → length (bytes_of l) ≡ 4 * length l
bytes-length l = let h = spelled-length four 4 (λ x. refl) l in omega arith

pub names-length : (l : List ℕ) → length (names_of l) ≡ 2 * length l
names-length l = let h = spelled-length two 2 (λ x. refl) l in omega arith

pub spelled-append : (f : ℕ → List ℕ) (l m : List ℕ) → spelled f (l ++ m) ≡ spelled f l ++ spelled f m
unfolding spelled
spelled-append f [] m = refl
spelled-append f (x ∷ l) m = rw (spelled-append f l m, ← append_assoc)

-- i numbers stand at the front of a buffer; one more is stored
pub spelled-more : (f : ℕ → List ℕ) (l b : List ℕ) (i at next : ℕ) → i < length l → length (spelled f (take i l)) ≡ at → at + length (f (get_or l i 0)) ≡ next → next ≤ length b
    → sets (spelled f (take i l) ++ drop at b) at (f (get_or l i 0)) ≡ spelled f (take (i + 1) l) ++ drop next b
unfolding spelled
spelled-more f l b i at next h e g k =
    let P = spelled f (take i l) in
    let x = get_or l i 0 in
    let room : at + length (f x) ≤ length (P ++ drop at b) = simp (length-append, length-drop) (omega arith) in
    let front : spelled f (take (i + 1) l) ≡ P ++ f x =
    ap (spelled f) (ap (λ (j : ℕ). take j l) (add-one i) ∙ take-suc l i 0 h) ∙ spelled-append f (take i l) (x ∷ []) ∙ ap (λ (y : List ℕ). P ++ y) (append-nil (f x)) in
    let rest : drop (at + length (f x)) (P ++ drop at b) ≡ drop next b =
    sym (drop-drop (length (f x)) at (P ++ drop at b)) ∙ ap (drop (length (f x))) (drop_at P (drop at b) at e) ∙ drop-drop (length (f x)) at b ∙ ap (λ (j : ℕ). drop j b) g in
    sets-eq (f x) (P ++ drop at b) at room
    ∙ ap (λ (y : List ℕ). y ++ f x ++ drop (at + length (f x)) (P ++ drop at b)) (take_at P (drop at b) at e)
    ∙ ap (λ (y : List ℕ). P ++ f x ++ y) rest
    ∙ ap (λ (y : List ℕ). y ++ drop next b) (sym front)

-- zeros are spelled as zeros
pub zeros-spelled : (n : ℕ) → bytes_of (replicate n 0) ≡ replicate (4 * n) 0
unfolding spelled
zeros-spelled zero = refl
zeros-spelled (suc n) = let e : 4 * suc n ≡ suc (suc (suc (suc (4 * n)))) = omega arith in rw (e, zeros-spelled n)

-- words and bytes undo each other
word-four : (w : ℕ) → word (w / 16777216) (w / 65536 % 256) (w / 256 % 256) (w % 256) ≡ w
word-four w = omega arith

four-word : (a b c d : ℕ) → b < 256 → c < 256 → d < 256 → four (word a b c d) ≡ a ∷ b ∷ c ∷ d ∷ []
four-word a b c d p q r =
    let w = word a b c d in
    let e₀ : w / 16777216 ≡ a = omega arith in
    let e₁ : w / 65536 % 256 ≡ b = omega arith in
    let e₂ : w / 256 % 256 ≡ c = omega arith in
    let e₃ : w % 256 ≡ d = omega arith in
    rw (e₀, e₁, e₂, e₃)

pub words-bytes : (l : List ℕ) → words_of (bytes_of l) ≡ l
unfolding words_of spelled
words-bytes [] = refl
words-bytes (w ∷ l) = rw (word-four w, words-bytes l)

abbrev pub Bytes : List ℕ → Type 0
Bytes s = (i : ℕ) → get_or s i 0 < 256

pub bytes-words : (s : List ℕ) → Bytes s → length s % 4 ≡ 0 → bytes_of (words_of s) ≡ s
unfolding words_of spelled
bytes-words [] h e = refl
bytes-words (a ∷ []) h e = absurd (omega arith)
bytes-words (a ∷ b ∷ []) h e = absurd (omega arith)
bytes-words (a ∷ b ∷ c ∷ []) h e = absurd (omega arith)
bytes-words (a ∷ b ∷ c ∷ d ∷ s) h e =
    ap (λ (x : List ℕ). x ++ bytes_of (words_of s)) (four-word a b c d (h 1) (h 2) (h 3))
    ∙ ap (λ (x : List ℕ). a ∷ b ∷ c ∷ d ∷ x) (bytes-words s (λ i. h (suc (suc (suc (suc i))))) (omega arith))
