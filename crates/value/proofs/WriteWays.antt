-- Each way through the functions that size codes, and the bytes of a text written one after another.
use Prim.Native.Nat.{ℕ, zero, suc, ◌+◌, ◌-◌, ◌%◌, ◌^◌, ◌<◌, ◌≤◌, min}
use mathlib.Core.Path.{◌≡◌, refl, sym, ap, ◌∙◌}
use mathlib.Core.Bool.{Bool, true, false}
use mathlib.Core.List.{List, [], ◌∷◌, ◌++◌, append-nil, append_assoc}
use native.Mathlib.Omega.{arith}
use borrow.Author.Tests.{le-leb, lt-leb, lt-ltb, le-ltb}
use native.Mathlib.Numerals.{add-one}
use mir.Val.{Fits as FitsIn}
use mir.Syntax.{w32}
use lib.ListN.{length, get_or, take, length-append}
use lib.Seq.{take-suc, take_all}
use Rattle.wire.specs.declared.Bits.{Bits}
use Rattle.wire.specs.Res.{Res, got, fault, ◌>>◌, guard}
use Rattle.wire.proofs.Res.{tested-then, tested-fault}
use Rattle.wire.specs.Bits.{bit_at, digits}
use Rattle.wire.proofs.BitLaws.{length_digits}
use Rattle.wire.specs.Width.{width}
use Rattle.wire.proofs.Width.{width-under, width-pow}
use Rattle.wire.specs.Number.{code5, more}
use Rattle.wire.proofs.WriteWays.{length-code5}
use Rattle.wire.proofs.Laws5.{more-least}
use Rattle.wire.specs.Put.{Wrote}
use Rattle.wire.proofs.Put.{put-none as put-nothing, wrote-both}
use Rattle.signed.specs.Words.{down, sign_of, magnitude_of}
use Rattle.signed.specs.Views.{Parts}
use Rattle.value.specs.Code.{Code, choice, five, signed, some, shifted, bits_of, fits, size_out}
use Rattle.value.specs.Simple.{bytes}
use Rattle.value.specs.Answer.{Sized, inner_is, code_is, size_is, Under}
use Rattle.value.specs.declared.Inner as inner_t
use Rattle.value.specs.declared.Inner.TheVariants as iv
use Rattle.value.specs.declared.Code as code_t
use Rattle.value.specs.declared.Code.TheVariants as cv
use Rattle.std.specs.Prelude.{Ok, Err}
use Rattle.numbers.specs.declared.refusal.Refusal.{Refusal}
use Rattle.numbers.specs.declared.refusal.Refusal.TheVariants as refusal
use Rattle.numbers.specs.Refused.{number_of}

-- two choices take one bit
pub width_two : width 2 ≡ 1
width_two = width-pow 1

sized : (c : Code) (v : ℕ) (n : Bits) → fits c v ≡ true → n.0 ≡ length (bits_of c v) → size_is (Ok n) ≡ size_out c v
unfolding size_out size_is
sized c v n t e = rw e (sym (tested-then 20 t refl))

unsized : (c : Code) (v : ℕ) → fits c v ≡ false → size_is (Err refusal.OutsideRow) ≡ size_out c v
unfolding size_out size_is
unsized c v t = sym (tested-fault 20 _ t)

-- a word's five is at most 40 bits
pub code5-short : (v : ℕ) → v < 2 ^ 32 → length (code5 v) ≤ 40
code5-short v h = omega (arith, length-code5 (more 7 v) v refl, more-least 7 v)

-- inner_size
module _ (i : inner_t.Inner) (v : ℕ) where
  module _ (n : ℕ) (w : i ≡ iv.Choice n) where
    pub size-choice : (k : Bits) → v < n → k.0 ≡ width n → size_is (Ok k) ≡ size_out (inner_is i) v
    unfolding inner_is bits_of fits
    size-choice k h e = rw w (sized (choice n) v k (lt-ltb v n h) (e ∙ sym (length_digits (width n) v)))

    pub size-no-choice : n ≤ v → size_is (Err refusal.OutsideRow) ≡ size_out (inner_is i) v
    unfolding inner_is fits
    size-no-choice h = rw w (unsized (choice n) v (le-ltb v n h))

  module _ (m : ℕ) (w : i ≡ iv.Five m) (s : v < 2 ^ 32) where
    pub size-five : (k : Bits) → v ≤ m → k.0 ≡ length (code5 v) → size_is (Ok k) ≡ size_out (inner_is i) v
    unfolding inner_is bits_of fits
    size-five k h e = rw w (sized (five m) v k (le-leb v (min m (2 ^ 32 - 1)) (omega arith)) e)

    pub size-no-five : m < v → size_is (Err refusal.OutsideRow) ≡ size_out (inner_is i) v
    unfolding inner_is fits
    size-no-five h = rw w (unsized (five m) v (lt-leb v (min m (2 ^ 32 - 1)) (omega arith)))

-- an answer of the code that is a result of the meaning
module _ {r : Sized} {m : Res ℕ} (e : size_is r ≡ m) where
  size-takes : {n : Bits} → r ≡ Ok n → m ≡ got n.0
  unfolding size_is
  size-takes w = sym e ∙ rw w

  size-refuse : {n : Refusal} → r ≡ Err n → m ≡ fault (number_of n)
  unfolding size_is
  size-refuse w = sym e ∙ rw w

pub record Fitting (c : Code) (v n : ℕ) : Type 0 where
  pub fit : fits c v ≡ true
  pub long : n ≡ length (bits_of c v)

-- what is got was tested, and what is refused is 20
sized-is : (c : Code) (v n : ℕ) → size_out c v ≡ got n → Fitting c v n
unfolding size_out
sized-is c v n e = go (fits c v) refl e
  where
    go : (t : Bool) → fits c v ≡ t → (guard t 20 >> got (length (bits_of c v))) ≡ got n → Fitting c v n
    go true f g = record { fit = f; long = let h = tested-then {t = true} 20 {m = got (length (bits_of c v))} refl refl in cc }
    go false f g = absurd (let h = tested-fault {t = false} 20 (got (length (bits_of c v))) refl in let z : ◌≡◌ {A = ℕ} 0 1 = cc in omega arith)

pub record Unsized (c : Code) (v e : ℕ) : Type 0 where
  pub unfit : fits c v ≡ false
  pub number : e ≡ 20

unsized-is : (c : Code) (v n : ℕ) → size_out c v ≡ fault n → Unsized c v n
unfolding size_out
unsized-is c v n e = go (fits c v) refl e
  where
    go : (t : Bool) → fits c v ≡ t → (guard t 20 >> got (length (bits_of c v))) ≡ fault n → Unsized c v n
    go true f g = absurd (let h = tested-then {t = true} 20 {m = got (length (bits_of c v))} refl refl in let z : ◌≡◌ {A = ℕ} 0 1 = cc in omega arith)
    go false f g = record { unfit = f; number = let h = tested-fault {t = false} 20 (got (length (bits_of c v))) refl in cc }

-- some_size
some_at : (c : Code) (v : ℕ) → (v ≡ 0 → ⊥) → (fits (some c) v ≡ fits c v) × (length (bits_of (some c) v) ≡ 1 + length (bits_of c v))
unfolding fits bits_of
some_at c zero z = absurd (z refl)
some_at c (suc k) z = (refl, length-append (digits (width 2) 1) (bits_of c (suc k)) ∙ ap (λ (n : ℕ). n + length (bits_of c (suc k))) (length_digits (width 2) 1 ∙ width_two))

module _ (i : inner_t.Inner) (v : ℕ) where
  pub size_none : (n : Bits) → v ≡ 0 → n.0 ≡ 1 → size_is (Ok n) ≡ size_out (some (inner_is i)) v
  unfolding fits bits_of
  size_none n z e = rw z (sized (some (inner_is i)) 0 n refl (e ∙ sym (length_digits (width 2) 0 ∙ width_two)))

  module _ (z : v ≡ 0 → ⊥) (r : Sized) (e : size_is r ≡ size_out (inner_is i) v) where
    pub size-no-some : (m : Refusal) → r ≡ Err m → size_is (Err m) ≡ size_out (some (inner_is i)) v
    unfolding size_is
    size-no-some m w =
        let u = unsized-is (inner_is i) v (number_of m) (size-refuse e w) in
        rw u.number (unsized (some (inner_is i)) v ((some_at (inner_is i) v z).0 ∙ u.unfit))

    pub size-some : (n k : Bits) → r ≡ Ok n → k.0 ≡ n.0 + 1 → size_is (Ok k) ≡ size_out (some (inner_is i)) v
    size-some n k w f =
        let u = sized-is (inner_is i) v n.0 (size-takes e w) in
        let s = some_at (inner_is i) v z in
        let l = u.long in
        sized (some (inner_is i)) v k (s.0 ∙ u.fit) (omega (arith, s.1))

-- sizes are small
pub size_small : {k : ℕ} (r : Sized) → Under k r → (n : Bits) → r ≡ Ok n → n.0 ≤ k
size_small r u n w = rw w at u

module _ (r : Sized) (u : Under 40 r) (n : Bits) (w : r ≡ Ok n) where
  pub size-more : n.0 + 1 ≤ 41
  size-more = omega (arith, size_small r u n w)

  pub size-more-fits : FitsIn w32 (n.0 + 1)
  size-more-fits = record { fits = omega (arith, size-more) }

pub size-wider : (r : Sized) → Under 40 r → Under 41 r
size-wider (Ok n) u = omega arith
size-wider (Err e) u = tt

pub width_small : (n : ℕ) → n < 2 ^ 32 → (w : ℕ) → w ≡ width n → w ≤ 40
width_small n h w e = omega (arith, width-under n 32 (omega arith))

pub five-small : (v : ℕ) → v < 2 ^ 32 → (k : ℕ) → k ≡ length (code5 v) → k ≤ 40
five-small v h k e = omega (arith, code5-short v h)

pub ruleset inner_size_ways = (size-choice, size-no-choice, size-five, size-no-five, width_small, five-small)

module _ (v : ℕ) (h : v < 2 ^ 32) (k : ℕ) (e : k ≡ length (code5 v)) where
  pub five-more : k + 1 ≤ 41
  five-more = omega (arith, five-small v h k e)

  pub five-more-fits : FitsIn w32 (k + 1)
  five-more-fits = record { fits = omega (arith, five-more) }

pub ruleset some_size_ways = (size_none, size-no-some, size-some, size-more, size-more-fits)

-- size
module _ (c : code_t.Code) (v : ℕ) where
  module _ (i : inner_t.Inner) (r : Sized) where
    pub size-plain : c ≡ cv.Plain i → size_is r ≡ size_out (inner_is i) v → size_is r ≡ size_out (code_is c) v
    unfolding code_is
    size-plain w e = e ∙ sym (rw w)

    pub size-of-some : c ≡ cv.Some i → size_is r ≡ size_out (some (inner_is i)) v → size_is r ≡ size_out (code_is c) v
    unfolding code_is
    size-of-some w e = e ∙ sym (rw w)

  shifted-size : (lo : ℕ) (d : Code) → lo < 2 ^ 32 → v < 2 ^ 32 → size_out d (down lo v) ≡ size_out (shifted lo d) v
  unfolding size_out fits bits_of
  shifted-size lo d h s = let e : lo % 2 ^ 32 ≡ lo = omega arith in rw (lt-ltb v (2 ^ 32) s, e)

  pub size-shifted : (lo : ℕ) (i : inner_t.Inner) (k : ℕ) (r : Sized) → c ≡ cv.Shifted lo i → lo < 2 ^ 32 → v < 2 ^ 32 → k ≡ down lo v → size_is r ≡ size_out (inner_is i) k → size_is r ≡ size_out (code_is c) v
  unfolding code_is
  size-shifted lo i k r w h s f e = rw (w, ← shifted-size lo (inner_is i) h s, ← f) e

  pub size_word : (n : Bits) → c ≡ cv.Word → v < 2 ^ 32 → n.0 ≡ 32 → size_is (Ok n) ≡ size_out (code_is c) v
  unfolding code_is fits bits_of
  size_word n w s e = rw w (sized (choice (2 ^ 32)) v n (lt-ltb v (2 ^ 32) s) (e ∙ sym (length_digits (width (2 ^ 32)) v ∙ width-pow 32)))

  signed-long : length (bits_of signed v) ≡ 1 + length (code5 (magnitude_of v))
  unfolding bits_of
  signed-long = length-append (digits (width 2) (sign_of v)) (code5 (magnitude_of v)) ∙ ap (λ (n : ℕ). n + length (code5 (magnitude_of v))) (length_digits (width 2) (sign_of v) ∙ width_two)

  pub size-signed : (t : Bool) (m : ℕ) (n k : Bits) → c ≡ cv.Signed → v < 2 ^ 32 → Parts v t m → n.0 ≡ length (code5 m) → k.0 ≡ n.0 + 1 → size_is (Ok k) ≡ size_out (code_is c) v
  unfolding code_is fits
  size-signed t m n k w s p e f =
      let g : n.0 ≡ length (code5 (magnitude_of v)) = e ∙ rw p.magnitude_is in
      rw w (sized signed v k (lt-ltb v (2 ^ 32) s) (omega (arith, signed-long)))

pub ruleset size_ways = (size-plain, size-of-some, size-shifted, size_word, size-signed, size-wider, five-more, five-more-fits)

-- put_bytes: the first i bytes stand
bytes-snoc : (l : List ℕ) (x : ℕ) → bytes (l ++ (x ∷ [])) ≡ bytes l ++ digits 8 x
unfolding bytes
bytes-snoc [] x = append-nil (digits 8 x)
bytes-snoc (y ∷ l) x = ap (λ (m : List ℕ). digits 8 y ++ m) (bytes-snoc l x) ∙ sym (append_assoc (digits 8 y) (bytes l) (digits 8 x))

pub bytes-start : (s : List ℕ) (at : ℕ) → Wrote s s at (bytes []) at
unfolding bytes
bytes-start s at = record { bits = put-nothing (bit_at s) at; next = omega arith }

pub bytes-turn : (s t u text : List ℕ) (at p q i x : ℕ) → i < length text → x ≡ get_or text i 0 → Wrote s t at (bytes (take i text)) p → Wrote t u p (digits 8 x) q → Wrote s u at (bytes (take (i + 1) text)) q
bytes-turn s t u text at p q i x h e f g =
    let r = wrote-both s t u at p q (bytes (take i text)) (digits 8 x) f g in
    let b : take (i + 1) text ≡ take i text ++ (x ∷ []) = rw (add-one, take-suc text i 0, e) in
    rw (b, bytes-snoc) r

pub bytes-end : (s t text : List ℕ) (at p i : ℕ) → i ≤ length text → length text ≤ i → Wrote s t at (bytes (take i text)) p → Wrote s t at (bytes text) p
bytes-end s t text at p i h k w = let e : take i text ≡ text = take_all i text k in rw e at w
