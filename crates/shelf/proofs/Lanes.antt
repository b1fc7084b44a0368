-- Words added in lanes are the words added: a lane holds the sum of as many bytes as are added, and its byte's weight comes last.
use Rattle.std.proofs.Common.{◌≡◌, ℕ, ◌+◌, ◌*◌, ◌/◌, ◌%◌, ◌<◌, ◌≤◌, List, get_or, sym, refl, ap, ◌∙◌, add-one, arith}
use native.Mathlib.Nat.{mod-add-mod, add-mul-mod_self_right}
use Rattle.buffers.specs.Bytes.{word, word_from}
use Rattle.shelf.specs.Block.{sum_to}
use Rattle.shelf.specs.Sums.{Little, apart, together}

-- the sums of the bytes that are first, second, third, fourth in each of k words
pub record Lanes (s : List ℕ) (from k even odd : ℕ) : Type 0 where
  pub a : ℕ
  pub b : ℕ
  pub c : ℕ
  pub d : ℕ
  pub evens : even ≡ a + 65536 * c
  pub odds : odd ≡ b + 65536 * d
  pub a_most : a ≤ 255 * k
  pub b_most : b ≤ 255 * k
  pub c_most : c ≤ 255 * k
  pub d_most : d ≤ 255 * k
  pub is : sum_to s from k ≡ word a b c d % 4294967296

pub lanes-none : (s : List ℕ) (from : ℕ) → Lanes s from 0 0 0
unfolding sum_to
lanes-none s from =
    record { a = 0; b = 0; c = 0; d = 0; evens = refl; odds = refl; a_most = omega arith; b_most = omega arith; c_most = omega arith; d_most = omega arith; is = refl }

module _ (a b c d w : ℕ) (i : a < 256) (j : b < 256) (k : c < 256) (l : d < 256) (e : w ≡ a + b * 256 + c * 65536 + d * 16777216) where
  evens-of : apart w ≡ a + 65536 * c
  evens-of = omega arith

  odds-of : apart (w / 256) ≡ b + 65536 * d
  odds-of = omega arith

pub lanes-more : {s : List ℕ} {from k even odd w e o : ℕ} → Lanes s from k even odd → Little s (from + 4 * k) w → e ≡ apart w → o ≡ apart (w / 256) → Lanes s from (k + 1) (even + e) (odd + o)
unfolding sum_to
lanes-more {s} {from} {k} {even} {odd} {w} {e} {o} l t f g =
    let at = from + 4 * k in
    let A = get_or s at 0 in
    let B = get_or s (at + 1) 0 in
    let C = get_or s (at + 2) 0 in
    let D = get_or s (at + 3) 0 in
    let p = evens-of A B C D w t.first t.second t.third t.fourth t.is in
    let q = odds-of A B C D w t.first t.second t.third t.fourth t.is in
    record {
      a = l.a + A;
      b = l.b + B;
      c = l.c + C;
      d = l.d + D;
      evens = sums-of l.a l.c A C l.evens (f ∙ p);
      odds = sums-of l.b l.d B D l.odds (g ∙ q);
      a_most = most-of l.a_most t.first;
      b_most = most-of l.b_most t.second;
      c_most = most-of l.c_most t.third;
      d_most = most-of l.d_most t.fourth;
      is =
          rw (add-one k)
          (ap (λ (x : ℕ). (x + word_from s at) % 4294967296) l.is ∙ mod-add-mod (word l.a l.b l.c l.d) 4294967296 (word_from s at)
          ∙ ap (λ (x : ℕ). x % 4294967296) (adds l.a l.b l.c l.d A B C D));
    }
  where
    sums-of : (a c A C : ℕ) {x y : ℕ} → x ≡ a + 65536 * c → y ≡ A + 65536 * C → x + y ≡ a + A + 65536 * (c + C)
    sums-of a c A C e f = omega arith

    most-of : {x A : ℕ} → x ≤ 255 * k → A < 256 → x + A ≤ 255 * (k + 1)
    most-of e f = omega arith

    adds : (a b c d A B C D : ℕ) → word a b c d + word A B C D ≡ word (a + A) (b + B) (c + C) (d + D)
    adds a b c d A B C D = omega arith

pub lanes-sum : {s : List ℕ} {from k even odd r : ℕ} → Lanes s from k even odd → k ≤ 127 → r ≡ together even odd → r ≡ sum_to s from k
lanes-sum {s} {from} {k} {even} {odd} l h e =
    e ∙ weighed l.a l.b l.c l.d even odd (least l.a_most) (least l.b_most) l.evens l.odds ∙ sym l.is
  where
    least : {x : ℕ} → x ≤ 255 * k → x < 65536
    least g = omega arith

    weighed : (a b c d even odd : ℕ) → a < 65536 → b < 65536 → even ≡ a + 65536 * c → odd ≡ b + 65536 * d → together even odd ≡ word a b c d % 4294967296
    weighed a b c d even odd i j e f =
        let p : even % 256 ≡ a % 256 = omega arith in
        let q : even / 65536 ≡ c = omega arith in
        let u : odd % 65536 ≡ b = omega arith in
        let v : odd / 65536 ≡ d = omega arith in
        let x = a % 256 * 16777216 + b * 65536 + (c * 256 + d) in
        let w : word a b c d ≡ x + a / 256 * 4294967296 = omega arith in
        rw (p, q, u, v) (sym (ap (λ (y : ℕ). y % 4294967296) w ∙ add-mul-mod_self_right x (a / 256) 4294967296))
