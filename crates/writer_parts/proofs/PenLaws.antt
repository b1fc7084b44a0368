-- The laws of the pen: bits behind those that wait, one run of bits after another, bytes as bits.
use Prim.Native.Nat.{ℕ, zero, suc, ◌+◌, ◌-◌, ◌*◌, ◌/◌, ◌%◌, ◌^◌, ◌<◌, ◌≤◌}
use mathlib.Core.Path.{◌≡◌, refl, sym, ap, ◌∙◌}
use mathlib.Core.List.{List, [], ◌∷◌, ◌++◌, append_assoc, append-nil}
use native.Mathlib.Nat.{add-zero, mod-lt}
use native.Mathlib.Numerals.{add-one}
use native.Mathlib.Omega.{arith}
use mir.Val.{Fits as FitsIn}
use mir.Syntax.{w8}
use lib.ListN.{length, get_or, take, drop, length-append, length-drop}
use lib.Seq.{take-suc, take-add, drop-drop, get_or-drop}
use lib.Arith.{digits_lt}
use lib.Pow.{pow_pos, pow-add, shl_exact, shl-shr, shr_lt, split, low, mod-pow-add}
use Rattle.wire.specs.Bits.{bit_at, num, digits}
use Rattle.wire.proofs.BitLaws.{length_digits}
use Rattle.wire.proofs.Put.{put-none, wrote-both}
use Rattle.wire.proofs.WriteWays.{digits-split}
use Rattle.wire.proofs.Store.{digits_low}
use Rattle.wire.proofs.WindowLaws.{bytes-more}
use Rattle.value.specs.Simple.{bytes}
use Rattle.writer_parts.specs.declared.pen.Pen.{Pen}
use Rattle.writer_parts.specs.Pen.{waits, Spare, Drawn}
use Rattle.writer_parts.proofs.NoteLaws.{digits_mod}

-- a word shifted left drops its high bits
pub shl-drops : (a j k : ℕ) → a * 2 ^ k % 2 ^ (j + k) ≡ a % 2 ^ j * 2 ^ k
shl-drops a j k =
    let z : a * 2 ^ k % 2 ^ k ≡ 0 = rw (add-zero (a * 2 ^ k)) at (low a k {lo = 0} (pow_pos k)) in
    mod-pow-add (a * 2 ^ k) j k ∙ rw (shl-shr a k, z) (add-zero (a % 2 ^ j * 2 ^ k))

-- the mask of w bits
pub mask_is : (w : ℕ) → w < 64 → 1 * 2 ^ w % 2 ^ 64 ≡ 2 ^ w
mask_is w h = shl_exact {a = 1} 1 w 64 (omega arith) (omega arith) ∙ omega arith

-- the high bits of a number and its low ones
pub digits-cut : (n r x : ℕ) → digits (n + r) x ≡ digits n (x / 2 ^ r) ++ digits r x
digits-cut n r x =
    ap (digits (n + r)) (sym (split x r)) ∙ digits-split n r (x / 2 ^ r) (x % 2 ^ r) (mod-lt x (pow_pos r)) ∙ rw (digits_low r x)

-- w bits behind c that wait, all in one word
module _ (a c w v : ℕ) (h : c + w ≤ 64) (short : w < 64) where
  abbrev pub behind : ℕ
  behind = a * 2 ^ w % 2 ^ 64 + v % (1 * 2 ^ w % 2 ^ 64)

  behind-is : behind ≡ a % 2 ^ (64 - w) * 2 ^ w + v % 2 ^ w
  behind-is =
      let e : 64 ≡ (64 - w) + w = omega arith in
      let s : a * 2 ^ w % 2 ^ 64 ≡ a % 2 ^ (64 - w) * 2 ^ w = ap (λ (n : ℕ). a * 2 ^ w % 2 ^ n) e ∙ shl-drops a (64 - w) w in
      rw (mask_is w short, s)

  pub behind-fits : behind < 2 ^ 64
  behind-fits =
      let e : 64 - w + w ≡ 64 = omega arith in
      let p : 2 ^ (64 - w) * 2 ^ w ≡ 2 ^ 64 = sym (pow-add 2 (64 - w) w) ∙ rw e in
      rw behind-is (rw p at (digits_lt (mod-lt a (pow_pos (64 - w))) (mod-lt v (pow_pos w))))

  pub behind-digits : digits (c + w) behind ≡ digits c a ++ digits w v
  behind-digits = rw (behind-is, digits-split c w (a % 2 ^ (64 - w)) (v % 2 ^ w) (mod-lt v (pow_pos w)), digits_mod c (64 - w) a (omega arith), digits_low w v)

-- c that wait and the first of more bits fill a word; n = 64 - c of them
abbrev pub filled : (a c x r : ℕ) → ℕ
filled a c x r = a % 2 ^ c * 2 ^ (64 - c) + x / 2 ^ r

module _ (a c x r : ℕ) (h : c ≤ 64) where
  module _ (l : x < 2 ^ (64 - c + r)) where
    pub filled-fits : filled a c x r < 2 ^ 64
    filled-fits =
        let e : c + (64 - c) ≡ 64 = omega arith in
        let p : 2 ^ c * 2 ^ (64 - c) ≡ 2 ^ 64 = sym (pow-add 2 c (64 - c)) ∙ rw e in
        rw p at (digits_lt (mod-lt a (pow_pos c)) (shr_lt (64 - c) r l))

    filled-digits : digits 64 (filled a c x r) ≡ digits c a ++ digits (64 - c) (x / 2 ^ r)
    filled-digits =
        let e : 64 ≡ c + (64 - c) = omega arith in
        ap (λ (n : ℕ). digits n (filled a c x r)) e ∙ rw (digits-split c (64 - c) (a % 2 ^ c) (x / 2 ^ r) (shr_lt (64 - c) r l), digits_low c a)

    pub filled-same : digits c a ++ digits (64 - c + r) x ≡ digits 64 (filled a c x r) ++ digits r x
    filled-same =
        rw (digits-cut (64 - c) r x, filled-digits) (sym (append_assoc (digits c a) (digits (64 - c) (x / 2 ^ r)) (digits r x)))

-- one run after another
pub drawn-none : (s : List ℕ) (p : Pen) → p.count < 64 → Drawn s s p p []
drawn-none s p h = record { put = []; same = append-nil (waits p); stands = record { bits = put-none (bit_at s) (8 * p.next); next = omega arith }; few = h }

pub drawn-both : (s t u : List ℕ) (p q r : Pen) (l m : List ℕ) → Drawn s t p q l → Drawn t u q r m → Drawn s u p r (l ++ m)
drawn-both s t u p q r l m f g = record {
  put = f.put ++ g.put;
  same =
      sym (append_assoc (waits p) l m) ∙ ap (λ (k : List ℕ). k ++ m) f.same ∙ append_assoc f.put (waits q) m
      ∙ ap (λ (k : List ℕ). f.put ++ k) g.same ∙ sym (append_assoc f.put g.put (waits r));
  stands = wrote-both s t u (8 * p.next) (8 * q.next) (8 * r.next) f.put g.put f.stands g.stands;
  few = g.few;
}

pub drawn-as : (s t : List ℕ) (p q : Pen) (l m : List ℕ) → l ≡ m → Drawn s t p q l → Drawn s t p q m
drawn-as s t p q l m e f = rw e at f

-- where the pen came to
pub drawn-place : (s t : List ℕ) (p q : Pen) (l : List ℕ) → Drawn s t p q l → 8 * q.next + q.count ≡ 8 * p.next + p.count + length l
drawn-place s t p q l f =
    let a = ap length f.same in
    let b = length-append (waits p) l in
    let c = length-append f.put (waits q) in
    let d = f.stands.next in
    let e = length_digits p.count p.waiting in
    let g = length_digits q.count q.waiting in
    omega arith

-- and the room from there on
pub spare-on : (s t : List ℕ) (p q : Pen) (l : List ℕ) (n m : ℕ) → Drawn s t p q l → Spare s p n → length t ≡ length s → length l + m ≤ n → Spare t q m
spare-on s t p q l n m f r e h =
    let a = drawn-place s t p q l f in
    let b = r.fits in
    let c = r.near in
    record { few = f.few; fits = omega arith; near = omega arith }

pub spare-less : (s : List ℕ) (p : Pen) (n m : ℕ) → Spare s p n → m ≤ n → Spare s p m
spare-less s p n m r h = let b = r.fits in let c = r.near in record { few = r.few; fits = omega arith; near = omega arith }

-- bytes as bits
bytes-snoc : (l : List ℕ) (x : ℕ) → bytes (l ++ (x ∷ [])) ≡ bytes l ++ digits 8 x
unfolding bytes
bytes-snoc [] x = append-nil (digits 8 x)
bytes-snoc (y ∷ l) x = ap (λ (m : List ℕ). digits 8 y ++ m) (bytes-snoc l x) ∙ sym (append_assoc (digits 8 y) (bytes l) (digits 8 x))

bytes-both : (l m : List ℕ) → bytes (l ++ m) ≡ bytes l ++ bytes m
unfolding bytes
bytes-both [] m = refl
bytes-both (y ∷ l) m = ap (λ (k : List ℕ). digits 8 y ++ k) (bytes-both l m) ∙ sym (append_assoc (digits 8 y) (bytes l) (bytes m))

-- one byte more, and more bytes
module _ (X : List ℕ) (from : ℕ) where
  pub bytes_next : (i : ℕ) → from + i < length X → bytes (take (i + 1) (drop from X)) ≡ bytes (take i (drop from X)) ++ digits 8 (get_or X (from + i) 0)
  bytes_next i h =
      rw (add-one, take-suc (drop from X) i 0 (omega (arith, length-drop from X)), get_or-drop from X i 0) (bytes-snoc (take i (drop from X)) (get_or X (from + i) 0))

  pub bytes_on : (i n : ℕ) → bytes (take (i + n) (drop from X)) ≡ bytes (take i (drop from X)) ++ bytes (take n (drop (from + i) X))
  bytes_on i n = rw (take-add i n (drop from X), drop-drop i from X) (bytes-both (take i (drop from X)) (take n (drop (from + i) X)))

pub bytes-none : (X : List ℕ) (from : ℕ) → bytes (take 0 (drop from X)) ≡ []
unfolding bytes
bytes-none X from = refl

-- bytes are the bits of the number that they are
pub bytes-number : (X : List ℕ) → ((j : ℕ) → FitsIn w8 (get_or X j 0)) → (i k : ℕ) → i + k ≤ length X → digits (8 * k) (num (bit_at X) (8 * i) (8 * k)) ≡ bytes (take k (drop i X))
unfolding num digits
bytes-number X f i zero h = sym (bytes-none X i)
bytes-number X f i (suc k) h =
    let e : 8 * suc k ≡ 8 * k + 8 = omega arith in
    let b = (f (i + k)).fits in
    let one : bytes (take (suc k) (drop i X)) ≡ bytes (take k (drop i X)) ++ digits 8 (get_or X (i + k) 0) = rw (← add-one k) (bytes_next X i k (omega arith)) in
    rw (e, bytes-more X i k b) (digits-split (8 * k) 8 (num (bit_at X) (8 * i) (8 * k)) (get_or X (i + k) 0) b ∙ rw (bytes-number X f i k (omega arith)) (sym one))
