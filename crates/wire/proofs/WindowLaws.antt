-- Laws of windows: a run of bits as one number holds each run within it as a quotient and a remainder, and whole bytes are such runs.
use Prim.Native.Nat.{ℕ, zero, suc, ◌+◌, ◌-◌, ◌*◌, ◌/◌, ◌%◌, ◌^◌, ◌<◌, ◌≤◌}
use mathlib.Core.Path.{◌≡◌, refl, sym, ap, ◌∙◌}
use mathlib.Core.List.{List}
use native.Mathlib.Nat.{add-zero, add-suc, div-eq_of_lt, div-div-eq-div-mul, zero-div, pow-suc}
use native.Mathlib.Omega.{arith}
use lib.ListN.{length, get_or, get_or-eq_default}
use lib.Pow.{pow_pos, pow-add, shl_lt, shl_exact, shl-shr, shr-shr, high, low}
use Rattle.wire.specs.Bits.{bit_at, num}
use Rattle.wire.proofs.BitLaws.{bit-lt, num-lt, num-under}

-- a run of bits is its first m and then its last n
pub num-split : (b : ℕ → ℕ) (at m n : ℕ) → num b at (m + n) ≡ num b at m * 2 ^ n + num b (at + m) n
unfolding num
num-split b at m zero = rw add-zero (omega arith)
num-split b at m (suc n) =
    let ih = num-split b at m n in
    let e : at + (m + n) ≡ at + m + n = omega arith in
    rw (add-suc, e, ih, pow-suc) (omega arith)

module _ (b : ℕ → ℕ) (bits : (i : ℕ) → b i < 2) (at : ℕ) where
  pub num-high : (m n : ℕ) → num b at (m + n) / 2 ^ n ≡ num b at m
  num-high m n = rw (num-split b at m n) (high (num b at m) n (num-lt b bits (at + m) n))

  pub num-low : (m n : ℕ) → num b at (m + n) % 2 ^ n ≡ num b (at + m) n
  num-low m n = rw (num-split b at m n) (low (num b at m) n (num-lt b bits (at + m) n))

  -- shifted left past its first r bits
  pub num-shl : (r m : ℕ) → num b at (r + m) * 2 ^ r % 2 ^ (m + r) ≡ num b (at + r) m * 2 ^ r
  num-shl r m =
      let p = pow-add 2 m r in
      let e : num b at (r + m) * 2 ^ r ≡ num b at r * 2 ^ (m + r) + num b (at + r) m * 2 ^ r = rw (num-split b at r m, p) (omega arith) in
      rw e (low (num b at r) (m + r) (shl_lt m r (num-lt b bits (at + r) m)))

-- and right again until w bits are left
pub num-cut : (b : ℕ → ℕ) → ((i : ℕ) → b i < 2) → (at r w t : ℕ) → num b at (r + (w + t)) * 2 ^ r % 2 ^ (w + t + r) / 2 ^ (r + t) ≡ num b (at + r) w
num-cut b bits at r w t =
    let rest = num b (at + r) (w + t) in
    rw (num-shl b bits at r (w + t)) (sym (shr-shr (rest * 2 ^ r) r t) ∙ ap (λ (x : ℕ). x / 2 ^ t) (shl-shr rest r) ∙ num-high b bits (at + r) w t)

-- bits past the end are 0
past-zero : (s : List ℕ) (at w : ℕ) → 8 * length s ≤ at → num (bit_at s) at w ≡ 0
unfolding num bit_at
past-zero s at zero h = refl
past-zero s at (suc w) h =
    let ih = past-zero s at w h in
    let e : get_or s ((at + w) / 8) 0 ≡ 0 = get_or-eq_default s 0 {n = (at + w) / 8} (omega arith) in
    rw (ih, e) (omega (arith, zero-div (2 ^ (7 - (at + w) % 8))))

-- the shift that makes a power of 2 to divide by
pub mask : (w : ℕ) → w ≤ 40 → 1 * 2 ^ w % 2 ^ 64 ≡ 2 ^ w
mask w h = shl_exact {a = 1} 1 w 64 (omega arith) (omega arith) ∙ omega arith

pub mask-some : (w : ℕ) → w ≤ 40 → 0 < 1 * 2 ^ w % 2 ^ 64
mask-some w h = rw (mask w h) (pow_pos w)

-- a byte is the number that its bits are
module _ (s : List ℕ) (i : ℕ) (h : get_or s i 0 < 256) where
  byte-part : (k d : ℕ) → k + d ≡ 8 → num (bit_at s) (8 * i) k ≡ get_or s i 0 / 2 ^ d
  unfolding num bit_at
  byte-part zero d e = let f : d ≡ 8 = omega arith in rw f (sym (div-eq_of_lt h))
  byte-part (suc k) d e =
      let ih = byte-part k (suc d) (omega arith) in
      let q : (8 * i + k) / 8 ≡ i = omega arith in
      let r : 7 - (8 * i + k) % 8 ≡ d = omega arith in
      let half : get_or s i 0 / 2 ^ suc d ≡ get_or s i 0 / 2 ^ d / 2 = ap (λ (m : ℕ). get_or s i 0 / m) (omega arith) ∙ sym (div-div-eq-div-mul (get_or s i 0) (2 ^ d) 2) in
      rw (q, r, ih, half) (omega arith)

  pub byte-num : num (bit_at s) (8 * i) 8 ≡ get_or s i 0
  byte-num = byte-part 8 0 refl ∙ omega arith

-- so bytes one after another are the number of all their bits
pub bytes-more : (s : List ℕ) (i k : ℕ) → get_or s (i + k) 0 < 256 → num (bit_at s) (8 * i) (8 * k + 8) ≡ num (bit_at s) (8 * i) (8 * k) * 256 + get_or s (i + k) 0
bytes-more s i k h =
    let e : 8 * i + 8 * k ≡ 8 * (i + k) = omega arith in
    num-split (bit_at s) (8 * i) (8 * k) 8 ∙ rw (e, byte-num s (i + k) h)

-- as the code takes its words together
pub four_is : (s : List ℕ) (i a b c d : ℕ) → (a ≡ get_or s i 0) × (a < 256) → (b ≡ get_or s (i + 1) 0) × (b < 256)
    → (c ≡ get_or s (i + 2) 0) × (c < 256) → (d ≡ get_or s (i + 3) 0) × (d < 256) → ((a * 256 + b) * 256 + c) * 256 + d ≡ num (bit_at s) (8 * i) 32
unfolding num
four_is s i a b c d e f g h =
    let z : get_or s i 0 ≡ get_or s (i + 0) 0 = rw add-zero in
    let p = bytes-more s i 0 (omega arith) in
    let q = bytes-more s i 1 (omega arith) in
    let r = bytes-more s i 2 (omega arith) in
    let t = bytes-more s i 3 (omega arith) in
    omega arith

pub eight_is : (s : List ℕ) (i h l : ℕ) → h ≡ num (bit_at s) (8 * i) 32 → l ≡ num (bit_at s) (8 * (i + 4)) 32 → h * 4294967296 + l ≡ num (bit_at s) (8 * i) 64
eight_is s i h l e f =
    let p : 8 * (i + 4) ≡ 8 * i + 32 = omega arith in
    sym (num-split (bit_at s) (8 * i) 32 32 ∙ rw (e, f, p))

pub four-fits : (s : List ℕ) (i h : ℕ) → h ≡ num (bit_at s) (8 * i) 32 → h < 4294967296
four-fits s i h e = rw e (num-lt (bit_at s) (bit-lt s) (8 * i) 32)

pub few-fits : (s : List ℕ) (i k v : ℕ) → k < 8 → v ≡ num (bit_at s) (8 * i) (8 * k) → v < 2 ^ 56
few-fits s i k v h e = rw e (num-under (bit_at s) (bit-lt s) (8 * i) {w = 8 * k} {k = 56} (omega arith))

pub few-turn : (s : List ℕ) (i k v x : ℕ) → v ≡ num (bit_at s) (8 * i) (8 * k) → (x ≡ get_or s (i + k) 0) × (x < 256) → v * 256 + x ≡ num (bit_at s) (8 * i) (8 * (k + 1))
few-turn s i k v x e f =
    let p : 8 * (k + 1) ≡ 8 * k + 8 = omega arith in
    rw (p, bytes-more s i k (omega arith)) (omega arith)

pub few-end : (s : List ℕ) (i k v : ℕ) → k ≤ 8 → 8 ≤ k → v ≡ num (bit_at s) (8 * i) (8 * k) → v ≡ num (bit_at s) (8 * i) 64
few-end s i k v h l e = let f : 8 * k ≡ 64 = omega arith in rw f at e

-- near the end: the last eight bytes, shifted left past those before byte i
pub last-is : (s : List ℕ) (i x : ℕ) → 8 ≤ length s → i < length s → length s < i + 8 → x ≡ num (bit_at s) (8 * (length s - 8)) 64
    → x * 2 ^ (8 * (i + 8 - length s)) % 2 ^ 64 ≡ num (bit_at s) (8 * i) 64
last-is s i x h l m e = rw e (shifted (8 * (i + 8 - length s)) (8 * (length s - i)) (omega arith) (omega arith) (omega arith))
  where
    shifted : (r d : ℕ) → r + d ≡ 64 → 8 * (length s - 8) + r ≡ 8 * i → 8 * i + d ≡ 8 * length s
        → num (bit_at s) (8 * (length s - 8)) 64 * 2 ^ r % 2 ^ 64 ≡ num (bit_at s) (8 * i) 64
    shifted r d f g k =
        let f' : d + r ≡ 64 = omega arith in
        let z = past-zero s (8 * i + d) r (omega arith) in
        rw (f, f', g) at (num-shl (bit_at s) (bit-lt s) (8 * (length s - 8)) r d)
        ∙ sym (rw f' at (num-split (bit_at s) (8 * i) d r) ∙ rw z (omega arith))

pub past_is : (s : List ℕ) (i : ℕ) → length s ≤ i → 0 ≡ num (bit_at s) (8 * i) 64
past_is s i h = sym (past-zero s (8 * i) 64 (omega arith))

-- the first w bits of a window
module _ (s : List ℕ) (at w x : ℕ) (h : w ≤ 57) (e : x ≡ num (bit_at s) at 57) where
  pub first_is : x / 2 ^ (57 - w) ≡ num (bit_at s) at w
  first_is =
      let f : w + (57 - w) ≡ 57 = omega arith in
      rw e (rw f at (num-high (bit_at s) (bit-lt s) at w (57 - w)))

-- the 57 bits from a place on, out of the eight bytes that begin with its own
pub window-is : (s : List ℕ) (at x : ℕ) → x ≡ num (bit_at s) (8 * (at / 8)) 64 → x * 2 ^ (at % 8) % 2 ^ 64 / 2 ^ 7 ≡ num (bit_at s) at 57
window-is s at x e = rw e (cut (at % 8) (7 - at % 8) (omega arith) (omega arith))
  where
    cut : (r t : ℕ) → r + t ≡ 7 → 8 * (at / 8) + r ≡ at → num (bit_at s) (8 * (at / 8)) 64 * 2 ^ r % 2 ^ 64 / 2 ^ 7 ≡ num (bit_at s) at 57
    cut r t f g =
        let h : r + (57 + t) ≡ 64 = omega arith in
        let k : 57 + t + r ≡ 64 = omega arith in
        rw (h, k, f, g) at (num-cut (bit_at s) (bit-lt s) (8 * (at / 8)) r 57 t)
