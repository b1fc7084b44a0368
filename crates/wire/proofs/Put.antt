-- What a write of bits does to a buffer, and the laws of one bit of a byte.
use Prim.Native.Nat.{ℕ, zero, suc, ◌+◌, ◌-◌, ◌*◌, ◌/◌, ◌%◌, ◌^◌, ◌<◌, ◌≤◌}
use mathlib.Core.Path.{◌≡◌, refl, sym, ap, ◌∙◌}
use mathlib.Core.List.{List, [], ◌∷◌, ◌++◌}
use native.Mathlib.Nat.{div-div-eq-div-mul}
use native.Mathlib.Omega.{arith}
use native.Mathlib.Decide.{dec_lt, ℕ_discrete}
use lib.ListN.{length, get_or, set, length-append}
use lib.Seq.{get_or-set_same, get_or-set_other, ext_get_or}
use lib.Pow.{shl_exact}
use Rattle.std.specs.Prelude.{Ok, Err}
use Rattle.wire.specs.Answer.{Read}
use Rattle.wire.specs.Bits.{bit_at, Has}
use Rattle.wire.proofs.BitLaws.{has_both, has_same}
use Rattle.wire.specs.Number.{code8}
use Rattle.wire.specs.Put.{Put, Wrote, WroteOr, Wrote8}

pub put-none : (b : ℕ → ℕ) (at : ℕ) → Put b b at []
put-none b at = record { stands = tt; before = λ j h. refl; after = λ j h. refl }

pub put_both : (b c d : ℕ → ℕ) (at : ℕ) (l m : List ℕ) → Put b c at l → Put c d (at + length l) m → Put b d at (l ++ m)
put_both b c d at l m p q =
    record {
      stands = has_both d at l m (has_same c d at l (λ i h k. q.before i k) p.stands) q.stands;
      before = λ j h. q.before j (omega arith) ∙ p.before j h;
      after = λ j h.
          let len = length-append l m in
          q.after j (omega arith) ∙ p.after j (omega arith);
    }

pub wrote-both : (s t u : List ℕ) (at p q : ℕ) (l m : List ℕ) → Wrote s t at l p → Wrote t u p m q → Wrote s u at (l ++ m) q
wrote-both s t u at p q l m f g =
    record {
      bits = put_both (bit_at s) (bit_at t) (bit_at u) at l m f.bits (rw f.next at g.bits);
      next = let n = length-append l m in let a = f.next in let b = g.next in omega arith;
    }

-- a write determines every bit
has_one : (b c : ℕ → ℕ) (at : ℕ) (l : List ℕ) → Has b at l → Has c at l → (j : ℕ) → at ≤ j → j < at + length l → b j ≡ c j
has_one b c at [] h k j f g = absurd (omega arith)
has_one b c at (x ∷ l) h k j f g = elim (ℕ_discrete at j) [
  | yes e ↦ ap b (sym e) ∙ h.0 ∙ sym k.0 ∙ ap c e
  | no e ↦ has_one b c (at + 1) l h.1 k.1 j (omega arith) (omega arith)
]

pub put_one : (b c d : ℕ → ℕ) (at : ℕ) (l : List ℕ) → Put b c at l → Put b d at l → (j : ℕ) → c j ≡ d j
put_one b c d at l f g j = elim (dec_lt j at) [
  | yes h ↦ f.before j h ∙ sym (g.before j h)
  | no h ↦ elim (dec_lt j (at + length l)) [
    | yes k ↦ has_one c d at l f.stands g.stands j (omega arith) k
    | no k ↦ f.after j (omega arith) ∙ sym (g.after j (omega arith))
  ]
]

-- a number of n bits is its bits
half : (y j : ℕ) → y / 2 ^ suc j ≡ y / 2 / 2 ^ j
half y j = ap (λ (m : ℕ). y / m) (omega arith) ∙ sym (div-div-eq-div-mul y 2 (2 ^ j))

bits-one : (n x y : ℕ) → x < 2 ^ n → y < 2 ^ n → ((k : ℕ) → k < n → x / 2 ^ k % 2 ≡ y / 2 ^ k % 2) → x ≡ y
bits-one zero x y f g h = omega arith
bits-one (suc n) x y f g h =
    let r = bits-one n (x / 2) (y / 2) (omega arith) (omega arith) (λ k l. rw (half x k, half y k) at (h (suc k) (omega arith))) in
    let e = h 0 (omega arith) in
    omega arith

-- bytes with the same bits are the same bytes
pub bytes_one : (s t : List ℕ) → length s ≡ length t → ((i : ℕ) → get_or s i 0 < 256) → ((i : ℕ) → get_or t i 0 < 256) → ((j : ℕ) → bit_at s j ≡ bit_at t j) → s ≡ t
unfolding bit_at
bytes_one s t e f g h = ext_get_or 0 s t e (λ i l. bits-one 8 (get_or s i 0) (get_or t i 0) (f i) (g i) (λ k m. same i k m))
  where
    same : (i k : ℕ) → k < 8 → get_or s i 0 / 2 ^ k % 2 ≡ get_or t i 0 / 2 ^ k % 2
    same i k m =
        let q : (8 * i + (7 - k)) / 8 ≡ i = omega arith in
        let r : 7 - (8 * i + (7 - k)) % 8 ≡ k = omega arith in
        rw (q, r) at (h (8 * i + (7 - k)))

-- what a slice of bytes holds after a call that was lent it with the bytes s
pub record Lent (s t : List ℕ) : Type 0 where
  pub long : length t ≡ length s
  pub byte : (i : ℕ) → get_or t i 0 < 256

-- two buffers that a writing promise allows are equal, and so are the two answers
pub wrote_one : (s t u : List ℕ) (at : ℕ) (l : List ℕ) (p q : ℕ) → Lent s t → Lent s u → Wrote s t at l p → Wrote s u at l q → (t ≡ u) × (p ≡ q)
wrote_one s t u at l p q f g a b =
    (bytes_one t u (f.long ∙ sym g.long) f.byte g.byte (put_one _ _ _ at l a.bits b.bits), a.next ∙ sym b.next)

pub wrote-or-one : (coded uncoded : Type 0) → (coded → uncoded → ⊥) → (l : List ℕ) (v : ℕ) (s t u : List ℕ) (at : ℕ) (a b : Read) → Lent s t → Lent s u
    → WroteOr coded uncoded l v s t at a → WroteOr coded uncoded l v s u at b → (t ≡ u) × (a ≡ b)
wrote-or-one c n never l v s t u at (Ok (x, p)) (Ok (y, q)) f g (d, i, h) (e, j, k) =
    let one = wrote_one s t u at l p.0 q.0 f g h k in
    (one.0, λ i. Ok ((d ∙ sym e) i, record { 0 = one.1 i }))
wrote-or-one c n never l v s t u at (Ok (x, p)) (Err y) f g (d, i, h) (e, j, k) = absurd (never i j)
wrote-or-one c n never l v s t u at (Err x) (Ok (y, q)) f g (d, i, h) (e, j, k) = absurd (never j i)
wrote-or-one c n never l v s t u at (Err x) (Err y) f g (d, i, h) (e, j, k) = (h ∙ sym k, ap Err (d ∙ sym e))

pub wrote8-one : (s t u : List ℕ) (at v : ℕ) (a b : Read) → Lent s t → Lent s u → Wrote8 s t at v a → Wrote8 s u at v b → (t ≡ u) × (a ≡ b)
wrote8-one s t u at v a b f g h k = wrote-or-one _ _ (λ i j. omega arith) (code8 v) v s t u at a b f g h k

half_up : (y k : ℕ) → (y + 2 ^ suc k) / 2 ≡ y / 2 + 2 ^ k
half_up y k = omega arith

-- a bit that is 0, raised
up_same : (k y : ℕ) → y / 2 ^ k % 2 ≡ 0 → (y + 2 ^ k) / 2 ^ k % 2 ≡ 1
up_same zero y h = omega arith
up_same (suc k) y h = rw (half (y + 2 ^ suc k) k, half_up y k) (up_same k (y / 2) (rw (half y k) at h))

up-other : (k j y : ℕ) → (j ≡ k → ⊥) → y / 2 ^ k % 2 ≡ 0 → (y + 2 ^ k) / 2 ^ j % 2 ≡ y / 2 ^ j % 2
up-other zero zero y n h = absurd (n refl)
up-other zero (suc j) y n h =
    let e : (y + 1) / 2 ≡ y / 2 = omega arith in
    rw (half (y + 1) j, half y j, e)
up-other (suc k) zero y n h = omega arith
up-other (suc k) (suc j) y n h =
    rw (half (y + 2 ^ suc k) j, half y j, half_up y k) (up-other k j (y / 2) (λ e. n (ap suc e)) (rw (half y k) at h))

up_fits : (n k y : ℕ) → k < n → y < 2 ^ n → y / 2 ^ k % 2 ≡ 0 → y + 2 ^ k < 2 ^ n
up_fits zero k y l f h = absurd (omega arith)
up_fits (suc n) zero y l f h = omega arith
up_fits (suc n) (suc k) y l f h = omega (arith, up_fits n k (y / 2) (omega arith) (omega arith) (rw (half y k) at h))

-- a bit that is 1, lowered, is a bit that is 0
down : (k y : ℕ) → y / 2 ^ k % 2 ≡ 1 → (2 ^ k ≤ y) × ((y - 2 ^ k) / 2 ^ k % 2 ≡ 0)
down zero y h = omega arith
down (suc k) y h =
    let r = down k (y / 2) (rw (half y k) at h) in
    let low : (y - 2 ^ suc k) / 2 ≡ y / 2 - 2 ^ k = omega arith in
    (omega arith, rw (half (y - 2 ^ suc k) k, low) r.1)

down-other : (k j y : ℕ) → (j ≡ k → ⊥) → y / 2 ^ k % 2 ≡ 1 → (y - 2 ^ k) / 2 ^ j % 2 ≡ y / 2 ^ j % 2
down-other k j y n h =
    let r = down k y h in
    let back : y - 2 ^ k + 2 ^ k ≡ y = omega arith in
    sym (rw back at (up-other k j (y - 2 ^ k) n r.1))

-- a byte that differs in the one bit, stored
put_byte : (s : List ℕ) (at x y : ℕ) → at < 8 * length s
    → y / 2 ^ (7 - at % 8) % 2 ≡ x
    → ((j : ℕ) → (j ≡ 7 - at % 8 → ⊥) → y / 2 ^ j % 2 ≡ get_or s (at / 8) 0 / 2 ^ j % 2)
    → Put (bit_at s) (bit_at (set s (at / 8) y)) at (x ∷ [])
unfolding bit_at
put_byte s at x y h e n =
    record {
      stands = (rw (get_or-set_same s (at / 8) y 0 (omega arith)) e, tt);
      before = λ j l. other j (λ q. omega arith);
      after = λ j l. other j (λ q. omega arith);
    }
  where
    other : (j : ℕ) → (j ≡ at → ⊥) → bit_at (set s (at / 8) y) j ≡ bit_at s j
    other j d =
        elim (ℕ_discrete (j / 8) (at / 8)) [
          | yes q ↦ rw (q, get_or-set_same s (at / 8) y 0 (omega arith)) (n (7 - j % 8) (λ r. d (omega arith)))
          | no q ↦ rw (get_or-set_other s (at / 8) (j / 8) y 0 q)
        ]

-- as the code computes it
shl_one : (k : ℕ) → k ≤ 7 → 1 * 2 ^ k % 256 ≡ 2 ^ k
shl_one k h = shl_exact {a = 1} 1 k 8 (omega arith) (omega arith) ∙ omega arith

module _ (s : List ℕ) (at x : ℕ) (h : at < 8 * length s) (l : x < 2) where
  pub put_up : bit_at s at < x → Put (bit_at s) (bit_at (set s (at / 8) (get_or s (at / 8) 0 + 1 * 2 ^ (7 - at % 8) % 256))) at (x ∷ [])
  unfolding bit_at
  put_up d =
      let y = get_or s (at / 8) 0 in
      let k = 7 - at % 8 in
      let z : y / 2 ^ k % 2 ≡ 0 = omega arith in
      rw (shl_one k (omega arith)) (put_byte s at x (y + 2 ^ k) h (omega (arith, up_same k y z)) (λ j n. up-other k j y n z))

  pub put-down : x < bit_at s at → Put (bit_at s) (bit_at (set s (at / 8) (get_or s (at / 8) 0 - 1 * 2 ^ (7 - at % 8) % 256))) at (x ∷ [])
  unfolding bit_at
  put-down d =
      let y = get_or s (at / 8) 0 in
      let k = 7 - at % 8 in
      let z : y / 2 ^ k % 2 ≡ 1 = omega arith in
      rw (shl_one k (omega arith)) (put_byte s at x (y - 2 ^ k) h (omega (arith, (down k y z).1)) (λ j n. down-other k j y n z))

  pub up-byte : bit_at s at < x → get_or s (at / 8) 0 < 256 → get_or s (at / 8) 0 + 1 * 2 ^ (7 - at % 8) % 256 < 256
  unfolding bit_at
  up-byte d f = rw (shl_one (7 - at % 8) (omega arith)) (up_fits 8 (7 - at % 8) (get_or s (at / 8) 0) (omega arith) f (omega arith))

  pub down-byte : x < bit_at s at → 1 * 2 ^ (7 - at % 8) % 256 ≤ get_or s (at / 8) 0
  unfolding bit_at
  down-byte d = rw (shl_one (7 - at % 8) (omega arith)) (down (7 - at % 8) (get_or s (at / 8) 0) (omega arith)).0

pub put_same : (b : ℕ → ℕ) (at x : ℕ) → b at ≡ x → Put b b at (x ∷ [])
put_same b at x e = record { stands = (e, tt); before = λ j h. refl; after = λ j h. refl }
