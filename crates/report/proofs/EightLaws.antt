-- Laws of numbers of 8 bytes: the number at an index, a number stored, and that bytes and numbers undo each other.
use Prim.Native.Nat.{ℕ, zero, suc, ◌+◌, ◌-◌, ◌*◌, ◌/◌, ◌%◌, ◌≤◌, ◌<◌}
use mathlib.Core.Path.{◌≡◌, refl, sym, ap, ◌∙◌}
use mathlib.Core.List.{List, [], ◌∷◌, ◌++◌}
use native.Mathlib.Omega.{arith}
use lib.ListN.{length, get_or, set, take, drop}
use lib.Seq.{sets, sets-eq, get_or-drop}
use borrow.Rule.Slice.PartMut.{put_mid, post_of, Post-is}
use Rattle.std.specs.Int.{to_be_bytes}
use Rattle.std.proofs.lemmas.Nat.{be_bytes_8}
use Rattle.std.proofs.Common.{w64, append_assoc}
use Rattle.buffers.specs.Bytes.{word_from, spelled}
use Rattle.report.specs.Eights.{number, number_from, eight, numbers_of, bytes_of}
use Rattle.report.specs.Places.{numbers, report_bytes, limit}
use Rattle.report.specs.Sums.{Octets}

pub numbers-length : (n : ℕ) (s : List ℕ) → length (numbers_of n s) ≡ n
unfolding numbers_of
numbers-length zero s = refl
numbers-length (suc n) s = ap suc (numbers-length n (drop 8 s))

from-drop : (s : List ℕ) (p : ℕ) → number_from (drop 8 s) p ≡ number_from s (8 + p)
from-drop s p =
    rw (get_or-drop 8 s p 0, step 1, step 2, step 3, step 4, step 5, step 6, step 7)
  where
    step : (k : ℕ) → get_or (drop 8 s) (p + k) 0 ≡ get_or s (8 + p + k) 0
    step k = get_or-drop 8 s (p + k) 0 ∙ ap (λ (j : ℕ). get_or s j 0) (omega arith)

pub number-at : (n : ℕ) (s : List ℕ) (i : ℕ) → i < n → get_or (numbers_of n s) i 0 ≡ number_from s (8 * i)
unfolding numbers_of
number-at zero s i h = absurd (omega arith)
number-at (suc n) s zero h = refl
number-at (suc n) s (suc i) h =
    let e : 8 + 8 * i ≡ 8 * suc i = omega arith in
    number-at n (drop 8 s) i (omega arith) ∙ from-drop s (8 * i) ∙ ap (number_from s) e

-- a number by its halves
pub number-halves : (s : List ℕ) (p h l : ℕ) → h ≡ word_from s p → l ≡ word_from s (p + 4) → h * 4294967296 + l ≡ number_from s p
number-halves s p h l e f =
    let at : (j k : ℕ) → j ≡ k → get_or s j 0 ≡ get_or s k 0 = λ j k q. ap (λ (n : ℕ). get_or s n 0) q in
    let e₅ = at (p + 4 + 1) (p + 5) (omega arith) in
    let e₆ = at (p + 4 + 2) (p + 6) (omega arith) in
    let e₇ = at (p + 4 + 3) (p + 7) (omega arith) in
    omega arith

number-eight : (x : ℕ) → number (x / 72057594037927936) (x / 281474976710656 % 256) (x / 1099511627776 % 256) (x / 4294967296 % 256) (x / 16777216 % 256) (x / 65536 % 256) (x / 256 % 256) (x % 256) ≡ x
number-eight x =
    let e₇ : x / 72057594037927936 * 256 + x / 281474976710656 % 256 ≡ x / 281474976710656 = omega arith in
    let e₆ : x / 281474976710656 * 256 + x / 1099511627776 % 256 ≡ x / 1099511627776 = omega arith in
    let e₅ : x / 1099511627776 * 256 + x / 4294967296 % 256 ≡ x / 4294967296 = omega arith in
    let e₄ : x / 4294967296 * 256 + x / 16777216 % 256 ≡ x / 16777216 = omega arith in
    let e₃ : x / 16777216 * 256 + x / 65536 % 256 ≡ x / 65536 = omega arith in
    let e₂ : x / 65536 * 256 + x / 256 % 256 ≡ x / 256 = omega arith in
    let e₁ : x / 256 * 256 + x % 256 ≡ x = omega arith in
    joined (x / 72057594037927936) (x / 281474976710656 % 256) (x / 1099511627776 % 256) (x / 4294967296 % 256) (x / 16777216 % 256) (x / 65536 % 256) (x / 256 % 256) (x % 256)
    (x / 281474976710656) (x / 1099511627776) (x / 4294967296) (x / 16777216) (x / 65536) (x / 256) x e₇ e₆ e₅ e₄ e₃ e₂ e₁
  where
    joined : (a b c d e f g h p q r s t u v : ℕ) → a * 256 + b ≡ p → p * 256 + c ≡ q → q * 256 + d ≡ r → r * 256 + e ≡ s → s * 256 + f ≡ t → t * 256 + g ≡ u → u * 256 + h ≡ v
        → number a b c d e f g h ≡ v
    joined a b c d e f g h p q r s t u v e₁ e₂ e₃ e₄ e₅ e₆ e₇ = omega arith

-- a number stored
pub number-stored : (n : ℕ) (s : List ℕ) (i v : ℕ) → i < n → 8 * n ≤ length s → numbers_of n (sets s (8 * i) (eight v)) ≡ set (numbers_of n s) i v
unfolding numbers_of
number-stored zero s i v h k = absurd (omega arith)
number-stored (suc n) [] i v h k = absurd (omega arith)
number-stored (suc n) (a ∷ []) i v h k = absurd (omega arith)
number-stored (suc n) (a ∷ b ∷ []) i v h k = absurd (omega arith)
number-stored (suc n) (a ∷ b ∷ c ∷ []) i v h k = absurd (omega arith)
number-stored (suc n) (a ∷ b ∷ c ∷ d ∷ []) i v h k = absurd (omega arith)
number-stored (suc n) (a ∷ b ∷ c ∷ d ∷ e ∷ []) i v h k = absurd (omega arith)
number-stored (suc n) (a ∷ b ∷ c ∷ d ∷ e ∷ f ∷ []) i v h k = absurd (omega arith)
number-stored (suc n) (a ∷ b ∷ c ∷ d ∷ e ∷ f ∷ g ∷ []) i v h k = absurd (omega arith)
number-stored (suc n) (a ∷ b ∷ c ∷ d ∷ e ∷ f ∷ g ∷ z ∷ t) zero v h k = ap (λ (x : ℕ). x ∷ numbers_of n t) (number-eight v)
number-stored (suc n) (a ∷ b ∷ c ∷ d ∷ e ∷ f ∷ g ∷ z ∷ t) (suc i) v h k =
    let m : 8 * suc i ≡ suc (suc (suc (suc (suc (suc (suc (suc (8 * i)))))))) = omega arith in
    rw m (ap (λ (x : List ℕ). number a b c d e f g z ∷ x) (number-stored n t i v (omega arith) (omega arith)))

-- bytes and numbers undo each other
eight-number : (a b c d e f g h : ℕ) → b < 256 → c < 256 → d < 256 → e < 256 → f < 256 → g < 256 → h < 256 → eight (number a b c d e f g h) ≡ a ∷ b ∷ c ∷ d ∷ e ∷ f ∷ g ∷ h ∷ []
eight-number a b c d e f g h p₁ p₂ p₃ p₄ p₅ p₆ p₇ =
    let x = number a b c d e f g h in
    let e₀ : x / 72057594037927936 ≡ a = omega arith in
    let e₁ : x / 281474976710656 % 256 ≡ b = omega arith in
    let e₂ : x / 1099511627776 % 256 ≡ c = omega arith in
    let e₃ : x / 4294967296 % 256 ≡ d = omega arith in
    let e₄ : x / 16777216 % 256 ≡ e = omega arith in
    let e₅ : x / 65536 % 256 ≡ f = omega arith in
    let e₆ : x / 256 % 256 ≡ g = omega arith in
    let e₇ : x % 256 ≡ h = omega arith in
    rw (e₀, e₁, e₂, e₃, e₄, e₅, e₆, e₇)

pub bytes_back : (n : ℕ) (s : List ℕ) → length s ≡ 8 * n → ((i : ℕ) → get_or s i 0 < 256) → bytes_of (numbers_of n s) ≡ s
unfolding numbers_of spelled
bytes_back zero [] h k = refl
bytes_back zero (a ∷ s) h k = absurd (omega arith)
bytes_back (suc n) [] h k = absurd (omega arith)
bytes_back (suc n) (a ∷ []) h k = absurd (omega arith)
bytes_back (suc n) (a ∷ b ∷ []) h k = absurd (omega arith)
bytes_back (suc n) (a ∷ b ∷ c ∷ []) h k = absurd (omega arith)
bytes_back (suc n) (a ∷ b ∷ c ∷ d ∷ []) h k = absurd (omega arith)
bytes_back (suc n) (a ∷ b ∷ c ∷ d ∷ e ∷ []) h k = absurd (omega arith)
bytes_back (suc n) (a ∷ b ∷ c ∷ d ∷ e ∷ f ∷ []) h k = absurd (omega arith)
bytes_back (suc n) (a ∷ b ∷ c ∷ d ∷ e ∷ f ∷ g ∷ []) h k = absurd (omega arith)
bytes_back (suc n) (a ∷ b ∷ c ∷ d ∷ e ∷ f ∷ g ∷ z ∷ t) h k =
    ap (λ (x : List ℕ). x ++ bytes_of (numbers_of n t)) (eight-number a b c d e f g z (k 1) (k 2) (k 3) (k 4) (k 5) (k 6) (k 7))
    ∙ ap (λ (x : List ℕ). a ∷ b ∷ c ∷ d ∷ e ∷ f ∷ g ∷ z ∷ x) (bytes_back n t (omega arith) (λ i. k (suc (suc (suc (suc (suc (suc (suc (suc i))))))))))

pub whole_back : (s : List ℕ) → length s ≡ report_bytes → Octets s → s ≡ bytes_of (numbers_of numbers s)
whole_back s n k = sym (bytes_back numbers s (n ∙ omega arith) k)

-- a number stored
pub put-way : (s s' : List ℕ) (i v : ℕ) → length s ≡ report_bytes → i < numbers → s' ≡ sets s (8 * i) (eight v) → numbers_of numbers s' ≡ set (numbers_of numbers s) i v
put-way s s' i v n h e = ap (numbers_of numbers) e ∙ number-stored numbers s i v h (omega arith)

-- the bytes of a number, written over a part
eight-octet : (n : ℕ) → n < limit → (i : ℕ) → get_or (eight n) i 0 < 256
eight-octet n h zero = omega arith
eight-octet n h (suc zero) = omega arith
eight-octet n h (suc (suc zero)) = omega arith
eight-octet n h (suc (suc (suc zero))) = omega arith
eight-octet n h (suc (suc (suc (suc zero)))) = omega arith
eight-octet n h (suc (suc (suc (suc (suc zero))))) = omega arith
eight-octet n h (suc (suc (suc (suc (suc (suc zero)))))) = omega arith
eight-octet n h (suc (suc (suc (suc (suc (suc (suc zero))))))) = omega arith
eight-octet n h (suc (suc (suc (suc (suc (suc (suc (suc i)))))))) = omega arith

eight-is : (n : ℕ) → n < limit → to_be_bytes w64 n ≡ eight n
eight-is n h = be_bytes_8 (eight n) n refl (eight-octet n h) (omega arith)

pub eight-put : (s t : List ℕ) (p n : ℕ) → p + 7 < length s → n < limit → t ≡ to_be_bytes w64 n → put_mid p (p + 8 - p) s t ≡ sets s p (eight n)
eight-put s t p n h l e =
    ap (λ (x : List ℕ). take p s ++ (x ++ post_of p (p + 8 - p) s)) (e ∙ eight-is n l)
    ∙ ap (λ (x : List ℕ). take p s ++ (eight n ++ x)) (Post-is p (p + 8) s (omega arith))
    ∙ sym (append_assoc (take p s) (eight n) (drop (p + 8) s))
    ∙ sym (sets-eq (eight n) s p (omega arith))
