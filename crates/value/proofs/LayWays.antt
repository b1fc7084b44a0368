-- Bytes laid from a byte on, or from a bit of one: each turn of the loops writes an octet.
use Prim.Native.Nat.{ℕ, suc, ◌+◌, ◌-◌, ◌*◌, ◌/◌, ◌%◌, ◌^◌, ◌<◌, ◌≤◌}
use mathlib.Core.Path.{◌≡◌, refl, sym, ap, ◌∙◌}
use mathlib.Core.List.{List, []}
use native.Mathlib.Numerals.{add-one}
use native.Mathlib.Omega.{arith}
use mir.Val.{Fits}
use mir.Syntax.{w8}
use lib.ListN.{length, get_or, set, take, length-set}
use lib.Seq.{get_or-set_same, get_or-set_other, set-get_or}
use lib.Pow.{split, high}
use Rattle.wire.specs.Bits.{digits}
use Rattle.wire.specs.Put.{Wrote}
use Rattle.utf8.specs.Slanted.{octet_at}
use Rattle.utf8.proofs.SlantedLaws.{seven, octet-joined}
use Rattle.value.specs.Simple.{bytes}
use Rattle.value.proofs.WriteWays.{bytes-start, bytes-turn, bytes-end}
use Rattle.value.proofs.OctetsLaws.{put-octet}

-- from a byte on
module _ (s t text : List ℕ) (q i : ℕ) (room : q + length text ≤ length t) (h : i < length text) where
  pub lay-turn : Fits w8 (get_or text i 0) → Wrote s t (8 * q) (bytes (take i text)) (8 * q + 8 * i) → Wrote s (set t (q + i) (get_or text i 0)) (8 * q) (bytes (take (i + 1) text)) (8 * q + 8 * (i + 1))
  unfolding octet_at
  lay-turn f w =
      let x = get_or text i 0 in
      let here : get_or (set t (q + i) x) (q + i) 0 ≡ x = get_or-set_same t (q + i) x 0 (omega arith) in
      let one = put-octet t (set t (q + i) x) (q + i) 0 x (omega arith)
      (λ j d e. get_or-set_other t (q + i) j x 0 d)
      (λ l. absurd (omega arith))
      (ap (λ (n : ℕ). n % 2 ^ 8) (get_or-set_other t (q + i) (suc (q + i)) x 0 (λ e. omega arith)))
      (rw here f.fits) (λ l. absurd (omega arith)) here in
      let a : 8 * (q + i) + 0 ≡ 8 * q + 8 * i = omega arith in
      let b : 8 * q + 8 * i + 8 ≡ 8 * q + 8 * (i + 1) = omega arith in
      bytes-turn s t (set t (q + i) x) text (8 * q) (8 * q + 8 * i) (8 * q + 8 * (i + 1)) i x h refl w (rw (a, b) at one)

pub lay-start : (s : List ℕ) (a : ℕ) → Wrote s s a (bytes []) (a + 8 * 0)
lay-start s a = let z : a + 8 * 0 ≡ a = omega arith in rw z (bytes-start s a)

pub lay-end : (s t text : List ℕ) (a i : ℕ) → i ≤ length text → length text ≤ i → Wrote s t a (bytes (take i text)) (a + 8 * i) → Wrote s t a (bytes text) (a + 8 * length text)
lay-end s t text a i h k w = let z : i ≡ length text = omega arith in rw z at (bytes-end s t text a (a + 8 * i) i h k w)

-- from bit k of a byte on: the buffer as it is once byte p has the low bits of the octet c, and its own low bits
abbrev pub close : ℕ → ℕ → ℕ → ℕ
close k c y = c * 2 ^ (8 - k) % 256 + y * 2 ^ k % 256 / 2 ^ k

abbrev pub closed : ℕ → ℕ → ℕ → List ℕ → List ℕ
closed k c p t = set t p (close k c (get_or t p 0))

abbrev pub mixed : ℕ → ℕ → ℕ → ℕ
mixed k c x = c * 2 ^ (8 - k) % 256 + x / 2 ^ k

-- what the two bytes that hold the octet x are: its high bits below those of c, and its low bits above those of z
module _ (c x y z : ℕ) (f : x < 256) where
  pub mixed-fits : (k : ℕ) → 0 < k → k < 8 → mixed k c x < 256
  mixed-fits = seven (λ k. mixed k c x < 256) (omega arith) (omega arith) (omega arith) (omega arith) (omega arith) (omega arith) (omega arith)

  mixed-top : (k : ℕ) → 0 < k → k < 8 → mixed k c x / 2 ^ (8 - k) ≡ close k c y / 2 ^ (8 - k)
  mixed-top = seven (λ k. mixed k c x / 2 ^ (8 - k) ≡ close k c y / 2 ^ (8 - k)) (omega arith) (omega arith) (omega arith) (omega arith) (omega arith) (omega arith) (omega arith)

  mixed-high : (k : ℕ) → 0 < k → k < 8 → mixed k c x * 2 ^ k % 256 ≡ x / 2 ^ k * 2 ^ k
  mixed-high = seven (λ k. mixed k c x * 2 ^ k % 256 ≡ x / 2 ^ k * 2 ^ k) (omega arith) (omega arith) (omega arith) (omega arith) (omega arith) (omega arith) (omega arith)

  low_fits : (k : ℕ) → 0 < k → k < 8 → z * 2 ^ k % 256 / 2 ^ k < 2 ^ (8 - k)
  low_fits = seven (λ k. z * 2 ^ k % 256 / 2 ^ k < 2 ^ (8 - k)) (omega arith) (omega arith) (omega arith) (omega arith) (omega arith) (omega arith) (omega arith)

  raised : (k : ℕ) → 0 < k → k < 8 → x * 2 ^ (8 - k) % 256 ≡ x % 2 ^ k * 2 ^ (8 - k)
  raised = seven (λ k. x * 2 ^ (8 - k) % 256 ≡ x % 2 ^ k * 2 ^ (8 - k)) (omega arith) (omega arith) (omega arith) (omega arith) (omega arith) (omega arith) (omega arith)

  close-high : (k : ℕ) → 0 < k → k < 8 → close k x z / 2 ^ (8 - k) ≡ x % 2 ^ k
  close-high k l h = rw (raised k l h) (high (x % 2 ^ k) (8 - k) (low_fits k l h))

  mixed-octet : (k : ℕ) → 0 < k → k < 8 → mixed k c x * 2 ^ k % 256 + close k x z / 2 ^ (8 - k) ≡ x
  mixed-octet k l h = rw (mixed-high k l h, close-high k l h) (split x k)

module _ (c y : ℕ) where
  pub close-fits : (k : ℕ) → 0 < k → k < 8 → close k c y < 256
  close-fits = seven (λ k. close k c y < 256) (omega arith) (omega arith) (omega arith) (omega arith) (omega arith) (omega arith) (omega arith)

  close-low : (k : ℕ) → 0 < k → k < 8 → close k c y % 2 ^ (8 - k) ≡ y % 2 ^ (8 - k)
  close-low = seven (λ k. close k c y % 2 ^ (8 - k) ≡ y % 2 ^ (8 - k)) (omega arith) (omega arith) (omega arith) (omega arith) (omega arith) (omega arith) (omega arith)

close-own : (y : ℕ) → y < 256 → (k : ℕ) → 0 < k → k < 8 → close k (y / 2 ^ (8 - k)) y ≡ y
close-own y f = seven (λ k. close k (y / 2 ^ (8 - k)) y ≡ y) (omega arith) (omega arith) (omega arith) (omega arith) (omega arith) (omega arith) (omega arith)

module _ (k : ℕ) (l : 0 < k) (h : k < 8) where
  pub slanted-start : (s text : List ℕ) (q : ℕ) → Fits w8 (get_or s q 0) → Wrote s (closed k (get_or s q 0 / 2 ^ (8 - k)) (q + 0) s) (8 * q + k) (bytes (take 0 text)) (8 * q + k + 8 * 0)
  slanted-start s text q f =
      let same : closed k (get_or s q 0 / 2 ^ (8 - k)) q s ≡ s = rw (close-own (get_or s q 0) f.fits k l h) (set-get_or s q 0) in
      let z : q + 0 ≡ q = omega arith in
      rw (z, same) (lay-start s (8 * q + k))

  module _ (t : List ℕ) (p c x : ℕ) (room : suc p < length t) (f : x < 256) where
    abbrev after-mixed : List ℕ
    after-mixed = closed k x (suc p) (set t p (mixed k c x))

    -- the bytes of the buffer before the octet x and after it
    before_here : get_or (closed k c p t) p 0 ≡ close k c (get_or t p 0)
    before_here = get_or-set_same t p (close k c (get_or t p 0)) 0 (omega arith)

    after_next : get_or (set t p (mixed k c x)) (suc p) 0 ≡ get_or t (suc p) 0
    after_next = get_or-set_other t p (suc p) (mixed k c x) 0 (λ e. omega arith)

    after-here : get_or after-mixed p 0 ≡ mixed k c x
    after-here =
        get_or-set_other (set t p (mixed k c x)) (suc p) p (close k x (get_or (set t p (mixed k c x)) (suc p) 0)) 0 (λ e. omega arith)
        ∙ get_or-set_same t p (mixed k c x) 0 (omega arith)

    after-there : get_or after-mixed (suc p) 0 ≡ close k x (get_or t (suc p) 0)
    after-there =
        get_or-set_same (set t p (mixed k c x)) (suc p) (close k x (get_or (set t p (mixed k c x)) (suc p) 0)) 0 (rw (length-set t p (mixed k c x)) room)
        ∙ ap (close k x) after_next

    slanted-octet : Wrote (closed k c p t) after-mixed (8 * p + k) (digits 8 x) (8 * p + k + 8)
    unfolding octet_at
    slanted-octet =
        put-octet (closed k c p t) after-mixed p k x h
        (λ j d e.
        get_or-set_other (set t p (mixed k c x)) (suc p) j (close k x (get_or (set t p (mixed k c x)) (suc p) 0)) 0 e
        ∙ get_or-set_other t p j (mixed k c x) 0 d
        ∙ sym (get_or-set_other t p j (close k c (get_or t p 0)) 0 d))
        (λ _. rw (after-here, before_here) (mixed-top c x (get_or t p 0) 0 f k l h))
        (ap (λ (n : ℕ). n % 2 ^ (8 - k)) after-there
        ∙ close-low x (get_or t (suc p) 0) k l h
        ∙ ap (λ (n : ℕ). n % 2 ^ (8 - k)) (sym (get_or-set_other t p (suc p) (close k c (get_or t p 0)) 0 (λ e. omega arith))))
        (rw after-here (mixed-fits c x 0 0 f k l h))
        (λ _. rw after-there (close-fits x (get_or t (suc p) 0) k l h))
        (sym (octet-joined after-mixed k p (λ e. omega arith))
        ∙ rw (add-one, after-here, after-there) (mixed-octet c x 0 (get_or t (suc p) 0) f k l h))

  pub slanted-turn : (s t text : List ℕ) (q c i : ℕ) → q + length text < length t → i < length text → Fits w8 (get_or text i 0)
      → Wrote s (closed k c (q + i) t) (8 * q + k) (bytes (take i text)) (8 * q + k + 8 * i)
      → Wrote s (closed k (get_or text i 0) (q + (i + 1)) (set t (q + i) (mixed k c (get_or text i 0)))) (8 * q + k) (bytes (take (i + 1) text)) (8 * q + k + 8 * (i + 1))
  slanted-turn s t text q c i room m f w =
      let x = get_or text i 0 in
      let one = slanted-octet t (q + i) c x (omega arith) f.fits in
      let n : suc (q + i) ≡ q + (i + 1) = omega arith in
      let a : 8 * (q + i) + k ≡ 8 * q + k + 8 * i = omega arith in
      let b : 8 * q + k + 8 * i + 8 ≡ 8 * q + k + 8 * (i + 1) = omega arith in
      bytes-turn s (closed k c (q + i) t) (closed k x (q + (i + 1)) (set t (q + i) (mixed k c x))) text (8 * q + k) (8 * q + k + 8 * i) (8 * q + k + 8 * (i + 1)) i x m refl w (rw (n, a, b) at one)

-- put_bytes: at the byte and the bit of a place
module _ (s t text : List ℕ) (a i : ℕ) (e : i ≡ a / 8) where
  pub laid : a % 8 ≡ 0 → Wrote s t (8 * i) (bytes text) (8 * i + 8 * length text) → Wrote s t a (bytes text) (a + 8 * length text)
  laid z w = let y : 8 * i ≡ a = omega arith in rw y at w

  pub laid-slanted : Wrote s t (8 * i + a % 8) (bytes text) (8 * i + a % 8 + 8 * length text) → Wrote s t a (bytes text) (a + 8 * length text)
  laid-slanted w = let y : 8 * i + a % 8 ≡ a = omega arith in rw y at w
