-- Bits of a word: one set or cleared is as it was set, and every other is as it was.
use Prim.Native.Nat.{ℕ, zero, suc, ◌+◌, ◌-◌, ◌*◌, ◌/◌, ◌%◌, ◌^◌, ◌<◌, ◌≤◌}
use mathlib.Core.Path.{◌≡◌, refl, sym, ap, ap₂, ◌∙◌}
use mathlib.Core.Bool.{Bool, true, false, cond}
use lib.Dec.{eqb}
use native.Mathlib.Omega.{arith}
use native.Mathlib.Nat.{le_trans, mul-le-mul_right, mod-le, div-mul-le_self, div-div-eq-div-mul, div-one, pow-succ', mul_left_comm}
use Rattle.table.specs.Setting.{marked}

-- bit p of a word
abbrev pub bit : (p w : ℕ) → ℕ
bit p w = w / 2 ^ p % 2

pub bit-under : (w p : ℕ) → bit p w * 2 ^ p ≤ w
bit-under w p = le_trans (mul-le-mul_right (2 ^ p) (mod-le (w / 2 ^ p) 2)) (div-mul-le_self w (2 ^ p))

bit-zero : (w : ℕ) → bit 0 w ≡ w % 2
bit-zero w = ap (λ (x : ℕ). x % 2) (div-one w)

bit-suc : (p w : ℕ) → bit (suc p) w ≡ bit p (w / 2)
bit-suc p w = ap (λ (x : ℕ). w / x % 2) (pow-succ' 2 p) ∙ sym (ap (λ (x : ℕ). x % 2) (div-div-eq-div-mul w 2 (2 ^ p)))

-- the mark as a bit
abbrev pub one : ℕ → ℕ
one mark = cond (eqb mark 0) 0 1

one_less : (mark : ℕ) → one mark ≤ 1
one_less mark = go (eqb mark 0)
  where
    go : (b : Bool) → cond b 0 1 ≤ 1
    go true = omega arith
    go false = omega arith

-- marked, bit by bit from the lowest
marked-zero : (mark w : ℕ) → marked 0 mark w ≡ 2 * (w / 2) + one mark
unfolding marked
marked-zero mark w = go (eqb mark 0)
  where
    go : (b : Bool) → w - bit 0 w * 2 ^ 0 + cond b 0 (2 ^ 0) ≡ 2 * (w / 2) + cond b 0 1
    go true = omega (arith, bit-zero w)
    go false = omega (arith, bit-zero w)

marked-suc : (p mark w : ℕ) → marked (suc p) mark w ≡ 2 * marked p mark (w / 2) + w % 2
unfolding marked
marked-suc p mark w = go (eqb mark 0)
  where
    y : ℕ
    y = bit p (w / 2) * 2 ^ p

    taken : bit (suc p) w * 2 ^ suc p ≡ 2 * y
    taken = ap₂ ◌*◌ (bit-suc p w) (pow-succ' 2 p) ∙ mul_left_comm (bit p (w / 2)) 2 (2 ^ p)

    under : y ≤ w / 2
    under = bit-under (w / 2) p

    go : (b : Bool) → w - bit (suc p) w * 2 ^ suc p + cond b 0 (2 ^ suc p) ≡ 2 * (w / 2 - y + cond b 0 (2 ^ p)) + w % 2
    go true = omega (arith, taken, under)
    go false = omega (arith, taken, under, pow-succ' 2 p)

-- the bit that was set
pub marked-own : (p mark w : ℕ) → bit p (marked p mark w) ≡ one mark
marked-own zero mark w = bit-zero (marked 0 mark w) ∙ omega (arith, marked-zero mark w, one_less mark)
marked-own (suc p) mark w =
    let half : marked (suc p) mark w / 2 ≡ marked p mark (w / 2) = omega (arith, marked-suc p mark w) in
    bit-suc p (marked (suc p) mark w) ∙ ap (bit p) half ∙ marked-own p mark (w / 2)

-- every other
pub marked_other : (p q mark w : ℕ) → (p ≡ q → ⊥) → bit q (marked p mark w) ≡ bit q w
marked_other zero zero mark w n = absurd (n refl)
marked_other zero (suc q) mark w n =
    let half : marked 0 mark w / 2 ≡ w / 2 = omega (arith, marked-zero mark w, one_less mark) in
    bit-suc q (marked 0 mark w) ∙ ap (bit q) half ∙ sym (bit-suc q w)
marked_other (suc p) zero mark w n = bit-zero (marked (suc p) mark w) ∙ omega (arith, marked-suc p mark w) ∙ sym (bit-zero w)
marked_other (suc p) (suc q) mark w n =
    let half : marked (suc p) mark w / 2 ≡ marked p mark (w / 2) = omega (arith, marked-suc p mark w) in
    bit-suc q (marked (suc p) mark w) ∙ ap (bit q) half ∙ marked_other p q mark (w / 2) (λ e. n (ap suc e)) ∙ sym (bit-suc q w)

-- no bit is set but the one
pub marked-small : (k p mark w : ℕ) → p < k → w < 2 ^ k → marked p mark w < 2 ^ k
marked-small zero p mark w h g = absurd (omega arith)
marked-small (suc k) zero mark w h g = omega (arith, marked-zero mark w, one_less mark, pow-succ' 2 k)
marked-small (suc k) (suc p) mark w h g =
    omega (arith, marked-suc p mark w, marked-small k p mark (w / 2) (omega arith) (omega (arith, pow-succ' 2 k)), pow-succ' 2 k)

-- two bits, in either order
zero-both : (q m n w : ℕ) → marked 0 m (marked (suc q) n w) ≡ marked (suc q) n (marked 0 m w)
zero-both q m n w =
    let half : marked 0 m w / 2 ≡ w / 2 = omega (arith, marked-zero m w, one_less m) in
    let same : marked q n (marked 0 m w / 2) ≡ marked q n (w / 2) = ap (marked q n) half in
    omega (arith, marked-zero m (marked (suc q) n w), marked-suc q n w, marked-suc q n (marked 0 m w), marked-zero m w, one_less m, same)

pub marked-both : (p q m n w : ℕ) → (p ≡ q → ⊥) → marked p m (marked q n w) ≡ marked q n (marked p m w)
marked-both zero zero m n w d = absurd (d refl)
marked-both zero (suc q) m n w d = zero-both q m n w
marked-both (suc p) zero m n w d = sym (zero-both p n m w)
marked-both (suc p) (suc q) m n w d =
    let half : marked (suc q) n w / 2 ≡ marked q n (w / 2) = omega (arith, marked-suc q n w) in
    let half' : marked (suc p) m w / 2 ≡ marked p m (w / 2) = omega (arith, marked-suc p m w) in
    let same = ap (marked p m) half in
    let same' = ap (marked q n) half' in
    omega (arith, marked-suc p m (marked (suc q) n w), marked-suc q n w, marked-suc q n (marked (suc p) m w), marked-suc p m w, same, same', marked-both p q m n (w / 2) (λ e. d (ap suc e)))
