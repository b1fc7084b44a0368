-- The laws of simple values, numbers and texts alike: what is read may stand there, what may stand is read with its exact bits, no bit past the wall is looked at.
use Prim.Native.Nat.{ℕ, zero, suc, ◌+◌, ◌*◌, ◌<◌, ◌≤◌}
use mathlib.Core.Path.{◌≡◌, refl, sym, ap, subst, ◌∙◌}
use mathlib.Core.List.{List, [], ◌∷◌, ◌++◌}
use native.Mathlib.Nat.{add-zero}
use native.Mathlib.Numerals.{add-one}
use native.Mathlib.Omega.{arith}
use native.Mathlib.Decide.{dec_le}
use lib.ListN.{length, length-append}
use Rattle.wire.specs.Res.{Res, got, fault, ◌>>◌, Ensures}
use Rattle.wire.proofs.Res.{gives, stops, bind, under, then, then-fault, under-then, under-fault}
use Rattle.wire.specs.Bits.{num, digits, Has}
use Rattle.wire.specs.At.{At}
use Rattle.wire.proofs.BitLaws.{num-lt, num-same, num-digits, length_digits, has_left, has_right, at_both, at_left, at_right, at-digits, at_same}
use Rattle.wire.specs.Lawful.{Binary}
use Rattle.wire.proofs.Lawful.{bind-same}
use Rattle.value.specs.Code.{bits_of}
use Rattle.value.proofs.CodeLaws.{code-lawful}
use Rattle.value.specs.Simple.{Simple, plain, text, dated, first_word, second_word, count, bytes, bytes_at, AllBytes, unless, text_of, untexted, simple_at, words_of, SimpleIs, a_code, a_text, a_date}
use Rattle.value.specs.Found.{FoundSimple}

-- bytes and their bits
pub bytes-length : (b : ℕ → ℕ) (at n : ℕ) → length (bytes_at b at n) ≡ n
unfolding bytes_at
bytes-length b at zero = refl
bytes-length b at (suc n) = ap suc (bytes-length b (at + 8) n)

pub length-bytes : (l : List ℕ) → length (bytes l) ≡ 8 * length l
unfolding bytes
length-bytes [] = refl
length-bytes (x ∷ l) = let h = length-bytes l in simp length-append (omega (arith, length_digits 8 x))

pub bytes-none : (b : ℕ → ℕ) (at : ℕ) → bytes_at b at 0 ≡ []
unfolding bytes_at
bytes-none b at = refl

-- one byte more at the end, for a loop
pub bytes-more : (b : ℕ → ℕ) (at n : ℕ) → bytes_at b at (n + 1) ≡ bytes_at b at n ++ (num b (at + 8 * n) 8 ∷ [])
unfolding bytes_at
bytes-more b at n = rw add-one (go b at n)
  where
    go : (b : ℕ → ℕ) (at n : ℕ) → bytes_at b at (suc n) ≡ bytes_at b at n ++ (num b (at + 8 * n) 8 ∷ [])
    go b at zero = rw add-zero
    go b at (suc n) =
        let e : at + 8 + 8 * n ≡ at + 8 * suc n = omega arith in
        ap (λ (l : List ℕ). num b at 8 ∷ l) (rw e at (go b (at + 8) n))

pub bytes-octets : (b : ℕ → ℕ) → Binary b → (at n : ℕ) → AllBytes (bytes_at b at n)
unfolding bytes_at
bytes-octets b bit at zero = tt
bytes-octets b bit at (suc n) = (num-lt b bit at 8, bytes-octets b bit (at + 8) n)

pub bytes-stand : (b : ℕ → ℕ) → Binary b → (at n : ℕ) → At b at (bytes (bytes_at b at n)) (at + 8 * n)
unfolding bytes_at bytes
bytes-stand b bit at zero = record { there = tt; next = omega arith }
bytes-stand b bit at (suc n) =
    let r = at_both (at-digits bit at 8) (bytes-stand b bit (at + 8) n) in
    subst (λ (p : ℕ). At b at (digits 8 (num b at 8) ++ bytes (bytes_at b (at + 8) n)) p) (omega arith) r

pub bytes_same : (b c : ℕ → ℕ) (at n : ℕ) → ((i : ℕ) → at ≤ i → i < at + 8 * n → b i ≡ c i) → bytes_at b at n ≡ bytes_at c at n
unfolding bytes_at
bytes_same b c at zero s = refl
bytes_same b c at (suc n) s =
    let e = num-same b c at 8 (λ i h k. s i h (omega arith)) in
    let f = bytes_same b c (at + 8) n (λ i h k. s i (omega arith) (omega arith)) in
    rw (e, f)

-- bytes that stand there are read
pub bytes_read : (b : ℕ → ℕ) (l : List ℕ) (at : ℕ) → AllBytes l → Has b at (bytes l) → bytes_at b at (length l) ≡ l
unfolding bytes bytes_at
bytes_read b [] at o h = refl
bytes_read b (x ∷ l) at o h =
    let e = num-digits b at 8 x o.0 (has_left b at (digits 8 x) (bytes l) h) in
    let h' : Has b (at + 8) (bytes l) = rw (length_digits 8 x) at (has_right b at (digits 8 x) (bytes l) h) in
    rw (e, bytes_read b l (at + 8) o.1 h')

-- what `unless` lets pass
module _ {B : Type 0} {Q : B → Type 0} where
  pub passes : (n : ℕ) {m : Res B} → (n ≡ 0 → Ensures m Q) → Ensures (unless n >> m) Q
  unfolding unless ◌>>◌
  passes zero f = f refl
  passes (suc n) f = stops

pub passes_then : {B : Type 0} {n : ℕ} {m c : Res B} → n ≡ 0 → m ≡ c → (unless n >> m) ≡ c
unfolding unless ◌>>◌
passes_then z f = rw z f

pub passes-fault : {B : Type 0} {n : ℕ} (m : Res B) → (n ≡ 0 → ⊥) → (unless n >> m) ≡ fault n
unfolding unless ◌>>◌
passes-fault {n = zero} m z = absurd (z refl)
passes-fault {n = suc k} m z = refl

pub simple-found : (b : ℕ → ℕ) → Binary b → (s : Simple) (wall at : ℕ) → Ensures (simple_at s b wall at) (λ r. FoundSimple b s wall at r.0 r.1 r.2)
unfolding simple_at untexted text_of
simple-found b bit (plain c) wall at =
    bind ((code-lawful c).found b bit wall at) λ r f. gives (record { bits = _; is = a_code f.fits; stands = f.stands; within = f.within })
simple-found b bit text wall at =
    bind ((code-lawful count).found b bit wall at) λ r f. under 5 λ h. passes _ λ z.
    let l = bytes_at b r.1 r.0 in
    let n = bytes-length b r.1 r.0 in
    gives (record {
      bits = bits_of count r.0 ++ bytes l;
      is = subst (λ (k : ℕ). SimpleIs text k l (bits_of count k ++ bytes l)) n (a_text {l = l} (rw n f.fits) (bytes-octets b bit r.1 r.0) z);
      stands = at_both f.stands (bytes-stand b bit r.1 r.0);
      within = h;
    })
simple-found b bit (dated c) wall at =
    bind ((code-lawful c).found b bit wall at) λ r f. gives (record { bits = _; is = a_date f.fits; stands = f.stands; within = f.within })

pub simple-reads : (b : ℕ → ℕ) {s : Simple} {v : ℕ} {ts w : List ℕ} {wall at p : ℕ} → SimpleIs s v ts w → At b at w p → p ≤ wall → simple_at s b wall at ≡ got (v, ts, p)
unfolding simple_at untexted text_of
simple-reads b (a_code {c} h) f k = then _ ((code-lawful c).reads b _ _ _ _ h f k) refl
simple-reads b {wall = wall} {at = at} {p = p} (a_text {l} h o z) f k =
    let x = bits_of count (length l) in
    let y = length-append x (bytes l) in
    let n = length-bytes l in
    let e = f.next in
    let q : ℕ = at + length x in
    let g : At b q (bytes l) p = at_right x (bytes l) f in
    let is = bytes_read b l q o g.there in
    let r : q + 8 * length l ≡ p = omega arith in
    then _ ((code-lawful count).reads b wall at (length l) q h (at_left x (bytes l) f) (omega arith))
    (under-then 5 (omega arith) (rw is (passes_then z (rw r))))
simple-reads b (a_date {c} h) f k = then _ ((code-lawful c).reads b _ _ _ _ h f k) refl

text-below : (b c : ℕ → ℕ) (wall n p : ℕ) → ((i : ℕ) → i < wall → b i ≡ c i) → text_of b wall n p ≡ text_of c wall n p
unfolding text_of
text-below b c wall n p s = elim (dec_le (p + 8 * n) wall) [
  | yes h ↦ rw (bytes_same b c p n (λ i k l. s i (omega arith)))
  | no h ↦ under-fault 5 _ (omega arith) ∙ sym (under-fault 5 _ (omega arith))
]

pub simple-below : (b c : ℕ → ℕ) (s : Simple) (wall at : ℕ) → ((i : ℕ) → i < wall → b i ≡ c i) → simple_at s b wall at ≡ simple_at s c wall at
unfolding simple_at untexted
simple-below b c (plain d) wall at s = bind-same _ _ _ _ ((code-lawful d).below b c wall at s) λ r e. refl
simple-below b c text wall at s = bind-same _ _ _ _ ((code-lawful count).below b c wall at s) λ r e. text-below b c wall r.0 r.1 s
simple-below b c (dated d) wall at s = bind-same _ _ _ _ ((code-lawful d).below b c wall at s) λ r e. refl

-- an accepted value looks at no bit past the place it ends at, and at no wall past that
pub simple-extends : (b c : ℕ → ℕ) → Binary b → (s : Simple) (wall wall' at v : ℕ) (ts : List ℕ) (q : ℕ) → simple_at s b wall at ≡ got (v, ts, q)
    → ((i : ℕ) → at ≤ i → i < q → c i ≡ b i) → q ≤ wall' → simple_at s c wall' at ≡ got (v, ts, q)
simple-extends b c bit s wall wall' at v ts q e h k =
    let f = (simple-found b bit s wall at).says (v, ts, q) e in
    simple-reads c f.is (at_same h f.stands) k

-- what is read, with its words
pub words-got : (s : Simple) {m : Res (ℕ × List ℕ × ℕ)} {v : ℕ} {ts : List ℕ} {p : ℕ} → m ≡ got (v, ts, p) → words_of s m ≡ got (first_word s v, second_word s v, ts, p)
unfolding words_of
words-got s e = then _ e refl

pub words-fault : (s : Simple) {m : Res (ℕ × List ℕ × ℕ)} {n : ℕ} → m ≡ fault n → words_of s m ≡ fault n
unfolding words_of
words-fault s e = then-fault _ e
