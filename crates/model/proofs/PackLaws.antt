-- Bits packed into bytes, and back.
use Prim.Native.Nat.{ℕ, zero, suc, ◌+◌, ◌-◌, ◌*◌, ◌/◌, ◌%◌, ◌<◌, ◌≤◌, ◌^◌}
use mathlib.Core.Path.{◌≡◌, refl, sym, ap, ap₂, subst, ◌∙◌}
use mathlib.Core.List.{List, [], ◌∷◌}
use native.Mathlib.Nat.{add-zero, div-div-eq-div-mul}
use native.Mathlib.Omega.{arith}
use native.Mathlib.Decide.{dec_lt}
use lib.ListN.{length, get_or-eq_default}
use Rattle.wire.specs.Bits.{bit_at, num, Has, source}
use Rattle.wire.specs.Lawful.{Binary}
use Rattle.value.specs.Simple.{bytes_at, AllBytes}
use Rattle.value.proofs.SimpleLaws.{bytes-length}
use Rattle.model.specs.Grammar.{Bits}
use Rattle.model.specs.Pack.{pack}

pub bit-next : (x : ℕ) (s : List ℕ) (i : ℕ) → bit_at (x ∷ s) (8 + i) ≡ bit_at s i
unfolding bit_at
bit-next x s i =
    let a : (8 + i) / 8 ≡ suc (i / 8) = omega arith in
    let c : (8 + i) % 8 ≡ i % 8 = omega arith in
    rw (a, c)

bit-first : (x : ℕ) (s : List ℕ) (i : ℕ) → i < 8 → bit_at (x ∷ s) i ≡ x / 2 ^ (7 - i) % 2
unfolding bit_at
bit-first x s i h =
    let a : i / 8 ≡ 0 = omega arith in
    let c : i % 8 ≡ i = omega arith in
    rw (a, c)

half_out : (y j : ℕ) → y / 2 ^ suc j ≡ y / 2 ^ j / 2
half_out y j = ap (λ (m : ℕ). y / m) (omega arith) ∙ sym (div-div-eq-div-mul y (2 ^ j) 2)

half_in : (y j : ℕ) → y / 2 ^ suc j ≡ y / 2 / 2 ^ j
half_in y j = ap (λ (m : ℕ). y / m) (omega arith) ∙ sym (div-div-eq-div-mul y 2 (2 ^ j))

top : (x : ℕ) (s : List ℕ) (w : ℕ) → x < 256 → w ≤ 8 → num (bit_at (x ∷ s)) 0 w ≡ x / 2 ^ (8 - w)
unfolding num
top x s zero h k = omega arith
top x s (suc w) h k =
    let e : 8 - w ≡ suc (7 - w) = omega arith in
    let c : 8 - suc w ≡ 7 - w = omega arith in
    let z : 0 + w ≡ w = omega arith in
    rw (top x s w h (omega arith), z, bit-first x s w (omega arith), e, c, half_out x (7 - w)) (omega arith)

pub byte-num : (x : ℕ) (s : List ℕ) → x < 256 → num (bit_at (x ∷ s)) 0 8 ≡ x
byte-num x s h = top x s 8 h (omega arith) ∙ omega arith

num-div : (b : ℕ → ℕ) → Binary b → (at w k : ℕ) → num b at (w + k) / 2 ^ k ≡ num b at w
unfolding num
num-div b bit at w zero = rw add-zero (omega arith)
num-div b bit at w (suc k) =
    let e : (num b at (w + k) * 2 + b (at + (w + k))) / 2 ≡ num b at (w + k) = omega (arith, bit (at + (w + k))) in
    let s : w + suc k ≡ suc (w + k) = omega arith in
    rw (half_in (num b at (w + suc k)) k, s, e) (num-div b bit at w k)

pub num-moved : (b c : ℕ → ℕ) (at to n : ℕ) → ((j : ℕ) → j < n → b (at + j) ≡ c (to + j)) → num b at n ≡ num c to n
unfolding num
num-moved b c at to zero f = refl
num-moved b c at to (suc n) f = rw (num-moved b c at to n (λ j h. f j (omega arith)), f n (omega arith))

-- bytes look at their own bits alone
pub bytes-moved : (b c : ℕ → ℕ) (at to n : ℕ) → ((j : ℕ) → j < 8 * n → b (at + j) ≡ c (to + j)) → bytes_at b at n ≡ bytes_at c to n
unfolding bytes_at
bytes-moved b c at to zero f = refl
bytes-moved b c at to (suc n) f =
    ap₂ ◌∷◌ (num-moved b c at to 8 (λ j h. f j (omega arith)))
    (bytes-moved b c (at + 8) (to + 8) n (λ j h. ap b (omega arith) ∙ f (8 + j) (omega arith) ∙ ap c (omega arith)))

-- the bytes of a payload's bits are the payload
pub bytes_back : (s : List ℕ) → AllBytes s → bytes_at (bit_at s) 0 (length s) ≡ s
unfolding bytes_at
bytes_back [] h = refl
bytes_back (x ∷ s) h =
    ap₂ ◌∷◌ (byte-num x s h.0) (bytes-moved (bit_at (x ∷ s)) (bit_at s) 8 0 (length s) (λ j k. bit-next x s j ∙ ap (bit_at s) (omega arith)) ∙ bytes_back s h.1)

byte-bit : (b : ℕ → ℕ) → Binary b → (at : ℕ) (s : List ℕ) (i : ℕ) → i < 8 → bit_at (num b at 8 ∷ s) i ≡ b (at + i)
unfolding num
byte-bit b bit at s i h =
    let e : 8 ≡ suc i + (7 - i) = omega arith in
    let d : num b at 8 / 2 ^ (7 - i) ≡ num b at (suc i) = subst (λ (m : ℕ). num b at m / 2 ^ (7 - i) ≡ num b at (suc i)) (sym e) (num-div b bit at (suc i) (7 - i)) in
    bit-first (num b at 8) s i h ∙ ap (λ (m : ℕ). m % 2) d ∙ omega (arith, bit (at + i))

-- and the bits of the bytes are the bits
pub bytes-bit : (b : ℕ → ℕ) → Binary b → (at n i : ℕ) → i < 8 * n → bit_at (bytes_at b at n) i ≡ b (at + i)
unfolding bytes_at
bytes-bit b bit at zero i h = absurd (omega arith)
bytes-bit b bit at (suc n) i h = elim (dec_lt i 8) [
  | yes k ↦ byte-bit b bit at (bytes_at b (at + 8) n) i k
  | no k ↦
      let e : i ≡ 8 + (i - 8) = omega arith in
      ap (bit_at (num b at 8 ∷ bytes_at b (at + 8) n)) e ∙ bit-next _ (bytes_at b (at + 8) n) (i - 8) ∙ bytes-bit b bit (at + 8) n (i - 8) (omega arith) ∙ ap b (omega arith)
]

-- a list of bits as a source
pub source-bit : (w : List ℕ) → Bits w → Binary (source w)
source-bit [] h i = omega arith
source-bit (x ∷ w) h zero = h.0
source-bit (x ∷ w) h (suc i) = source-bit w h.1 i

pub source-past : (w : List ℕ) (i : ℕ) → length w ≤ i → source w i ≡ 0
source-past w i h = get_or-eq_default w 0 h

pub has-each : (b : ℕ → ℕ) (at : ℕ) (w : List ℕ) → Has b at w → (i : ℕ) → i < length w → source w i ≡ b (at + i)
has-each b at [] h i k = absurd (omega arith)
has-each b at (x ∷ w) h zero k = sym h.0 ∙ ap b (omega arith)
has-each b at (x ∷ w) h (suc i) k = has-each b (at + 1) w h.1 i (omega arith) ∙ ap b (omega arith)

pub each-has : (b : ℕ → ℕ) (at : ℕ) (w : List ℕ) → ((i : ℕ) → i < length w → b (at + i) ≡ source w i) → Has b at w
each-has b at [] f = tt
each-has b at (x ∷ w) f = (ap b (omega arith) ∙ f 0 (omega arith), each-has b (at + 1) w (λ i h. ap b (omega arith) ∙ f (suc i) (omega arith)))

pub pack-length : (w : List ℕ) → length (pack w) ≡ (length w + 7) / 8
unfolding pack
pack-length w = bytes-length (source w) 0 ((length w + 7) / 8)
