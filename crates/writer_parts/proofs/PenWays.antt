-- Each way through the pen.
use Prim.Native.Nat.{ℕ, zero, suc, ◌+◌, ◌-◌, ◌*◌, ◌/◌, ◌%◌, ◌^◌, ◌<◌, ◌≤◌, min}
use mathlib.Core.Path.{◌≡◌, refl, sym, ap, ◌∙◌}
use mathlib.Core.List.{List, [], ◌∷◌, ◌++◌}
use native.Mathlib.Nat.{mod-lt}
use native.Mathlib.Omega.{arith}
use native.Mathlib.Decide.{dec_le}
use mir.Val.{Fits as FitsIn}
use mir.Syntax.{w8, w32, w64}
use lib.ListN.{length, get_or, take, drop, length-append, length-take, length-drop}
use lib.Seq.{take_all, get_or-take}
use lib.Pow.{pow_pos, pow_mono, pow-add, split, mod-mod-pow}
use Rattle.wire.specs.Bits.{bit_at, num, digits, Has}
use Rattle.wire.proofs.BitLaws.{bit-lt, length_digits, digits-num, has_left, has_right}
use Rattle.wire.proofs.WindowLaws.{num-high, byte-num}
use Rattle.wire.specs.Number.{code5}
use Rattle.wire.specs.Coded.{Codes}
use Rattle.wire.specs.declared.Coded.{Coded}
use Rattle.wire.specs.Put.{Put, Room, Wrote}
use Rattle.wire.proofs.Put.{put-none, wrote-both}
use Rattle.wire.proofs.WriteWays.{digits-split}
use Rattle.wire.proofs.Store.{digits_low}
use Rattle.value.specs.Simple.{bytes}
use Rattle.value.proofs.SimpleLaws.{length-bytes}
use Rattle.value.proofs.WriteWays.{code5-short}
use Rattle.writer_parts.specs.declared.pen.Pen.{Pen}
use Rattle.writer_parts.specs.Notes.{texts_from, dates_from, code_bits, text_bits, date_bits, note_bits, note_at, spells}
use Rattle.writer_parts.specs.Pen.{waits, Spare, Drawn, Begun}
use Rattle.writer_parts.proofs.NoteLaws.{digits_mod, note-code, note-text, note-date, note-none, spells-none, spells-last, spells-both}
use Rattle.writer_parts.proofs.PenLaws.{mask_is, digits-cut, behind-fits, behind-digits, shl-drops, filled, filled-fits, filled-same, drawn-none, drawn-both, drawn-as, spare-on, spare-less, bytes_next, bytes_on, bytes-none, bytes-number}

-- put_code
module _ (s : List ℕ) (p : Pen) (w v : ℕ) (r : Spare s p w) (h : w < 64) where
  pub code-mask : 0 < 1 * 2 ^ w % 2 ^ 64
  code-mask = rw (mask_is w h) (pow_pos w)

  module _ (g : p.count + w < 64) where
    pub code_fits : FitsIn w64 (p.waiting * 2 ^ w % 2 ^ 64 + v % (1 * 2 ^ w % 2 ^ 64))
    code_fits = record { fits = behind-fits p.waiting p.count w v (omega arith) h }

    pub code-waits : Drawn s s p (record { next = p.next; waiting = p.waiting * 2 ^ w % 2 ^ 64 + v % (1 * 2 ^ w % 2 ^ 64); count = p.count + w }) (digits w v)
    code-waits = record {
      put = [];
      same = sym (behind-digits p.waiting p.count w v (omega arith) h);
      stands = record { bits = put-none (bit_at s) (8 * p.next); next = omega arith };
      few = g;
    }

  module _ (g : 64 ≤ p.count + w) where
    abbrev rest : ℕ
    rest = p.count + w - 64

    pub code-rest : rest ≤ w
    code-rest = let f = r.few in omega arith

    free-is : w - rest ≡ 64 - p.count
    free-is = let f = r.few in omega arith

    pub code_free : w - rest < 64
    code_free = let f = r.few in omega arith

    pub code-left : rest < 64
    code-left = let f = r.few in omega arith

    pub code-room : p.next + 8 ≤ length s
    code-room = let f = r.fits in omega arith

    pub code-next : FitsIn w64 (p.next + 8)
    code-next = let f = r.near in record { fits = omega arith }

    abbrev x : ℕ
    x = v % (1 * 2 ^ w % 2 ^ 64)

    x-is : x ≡ v % 2 ^ w
    x-is = ap (λ (n : ℕ). v % n) (mask_is w h)

    x-under : x < 2 ^ (64 - p.count + rest)
    x-under = let f = r.few in let e : 64 - p.count + rest ≡ w = omega arith in rw (x-is, e) (mod-lt v (pow_pos w))

    word-is : p.waiting * 2 ^ (w - rest) % 2 ^ 64 + x / 2 ^ rest ≡ filled p.waiting p.count x rest
    word-is =
        let f = r.few in
        let e : 64 ≡ p.count + (64 - p.count) = omega arith in
        rw free-is (ap (λ (n : ℕ). n + x / 2 ^ rest) (ap (λ (n : ℕ). p.waiting * 2 ^ (64 - p.count) % 2 ^ n) e ∙ shl-drops p.waiting p.count (64 - p.count)))

    pub code-word : FitsIn w64 (p.waiting * 2 ^ (w - rest) % 2 ^ 64 + v % (1 * 2 ^ w % 2 ^ 64) / 2 ^ rest)
    code-word = let f = r.few in record { fits = rw word-is (filled-fits p.waiting p.count x rest (omega arith) x-under) }

    pub code_put : (t : List ℕ) → Put (bit_at s) (bit_at t) (8 * p.next) (digits 64 (p.waiting * 2 ^ (w - rest) % 2 ^ 64 + v % (1 * 2 ^ w % 2 ^ 64) / 2 ^ rest))
        → Drawn s t p (record { next = p.next + 8; waiting = v % (1 * 2 ^ w % 2 ^ 64); count = p.count + w - 64 }) (digits w v)
    code_put t b =
        let f = r.few in
        let e : 64 - p.count + rest ≡ w = omega arith in
        let d : digits w v ≡ digits (64 - p.count + rest) x = sym (digits_low w v) ∙ sym (ap (digits w) x-is) ∙ ap (λ (n : ℕ). digits n x) (sym e) in
        record {
          put = digits 64 (filled p.waiting p.count x rest);
          same = rw d (filled-same p.waiting p.count x rest (omega arith) x-under);
          stands = record { bits = rw word-is at b; next = omega (arith, length_digits 64 (filled p.waiting p.count x rest)) };
          few = omega arith;
        }

pub ruleset code_ways = (code-mask, code_fits, code-waits, code-rest, code_free, code-left, code-room, code-next, code-word, code_put)

-- put_eight
module _ (s : List ℕ) (p : Pen) (v : ℕ) (small : v < 2 ^ 64) (r : Spare s p 64) where
  pub eight-count : p.count ≤ 63
  eight-count = let f = r.few in omega arith

  pub eight-shift : p.count < 64
  eight-shift = r.few

  pub eight-left : 63 - p.count < 64
  eight-left = omega arith

  pub eight-room : p.next + 8 ≤ length s
  eight-room = let f = r.fits in omega arith

  pub eight-next : FitsIn w64 (p.next + 8)
  eight-next = let f = r.near in record { fits = omega arith }

  under : v < 2 ^ (64 - p.count + p.count)
  under = let f = r.few in let e : 64 - p.count + p.count ≡ 64 = omega arith in rw e small

  once : p.waiting * 2 ^ (63 - p.count) % 2 ^ 64 ≡ p.waiting % 2 ^ (p.count + 1) * 2 ^ (63 - p.count)
  once =
      let f = r.few in
      let e : 64 ≡ (p.count + 1) + (63 - p.count) = omega arith in
      ap (λ (n : ℕ). p.waiting * 2 ^ (63 - p.count) % 2 ^ n) e ∙ shl-drops p.waiting (p.count + 1) (63 - p.count)

  twice : p.waiting * 2 ^ (63 - p.count) % 2 ^ 64 * 2 ^ 1 % 2 ^ 64 ≡ p.waiting % 2 ^ p.count * 2 ^ (64 - p.count)
  twice =
      let f = r.few in
      let e : 64 ≡ p.count + (64 - p.count) = omega arith in
      let g : 63 - p.count + 1 ≡ 64 - p.count = omega arith in
      let o : p.count + 1 ≡ 1 + p.count = omega arith in
      let a : p.waiting % 2 ^ (p.count + 1) * 2 ^ (63 - p.count) * 2 ^ 1 ≡ p.waiting % 2 ^ (p.count + 1) * 2 ^ (64 - p.count) =
      (let b : p.waiting % 2 ^ (p.count + 1) * 2 ^ (63 - p.count) * 2 ^ 1 ≡ p.waiting % 2 ^ (p.count + 1) * (2 ^ (63 - p.count) * 2 ^ 1) = omega arith in
      b ∙ ap (λ (n : ℕ). p.waiting % 2 ^ (p.count + 1) * n) (sym (pow-add 2 (63 - p.count) 1) ∙ ap (λ (n : ℕ). 2 ^ n) g)) in
      rw (once, a)
      (ap (λ (n : ℕ). p.waiting % 2 ^ (p.count + 1) * 2 ^ (64 - p.count) % 2 ^ n) e ∙ shl-drops (p.waiting % 2 ^ (p.count + 1)) p.count (64 - p.count)
      ∙ ap (λ (n : ℕ). n * 2 ^ (64 - p.count)) (ap (λ (n : ℕ). p.waiting % 2 ^ n % 2 ^ p.count) o ∙ mod-mod-pow p.waiting 1 p.count))

  pub eight_fits : FitsIn w64 (p.waiting * 2 ^ (63 - p.count) % 2 ^ 64 * 2 ^ 1 % 2 ^ 64 + v / 2 ^ p.count)
  eight_fits = let f = r.few in record { fits = rw twice (filled-fits p.waiting p.count v p.count (omega arith) under) }

  pub eight-put : (t : List ℕ) → Put (bit_at s) (bit_at t) (8 * p.next) (digits 64 (p.waiting * 2 ^ (63 - p.count) % 2 ^ 64 * 2 ^ 1 % 2 ^ 64 + v / 2 ^ p.count))
      → Drawn s t p (record { next = p.next + 8; waiting = v; count = p.count }) (digits 64 v)
  eight-put t b =
      let f = r.few in
      let e : 64 - p.count + p.count ≡ 64 = omega arith in
      record {
        put = digits 64 (filled p.waiting p.count v p.count);
        same = rw e at (filled-same p.waiting p.count v p.count (omega arith) under);
        stands = record { bits = rw twice at b; next = omega (arith, length_digits 64 (filled p.waiting p.count v p.count)) };
        few = f;
      }

pub ruleset eight_ways = (eight-count, eight-shift, eight-left, eight-room, eight-next, eight_fits, eight-put)

-- few: the first i bytes are the number x
pub few-start : (X : List ℕ) → digits (8 * 0) 0 ≡ bytes (take 0 X)
unfolding digits
few-start X = sym (bytes-none X 0)

pub few-turn : (X : List ℕ) (i x b : ℕ) → digits (8 * i) x ≡ bytes (take i X) → b ≡ get_or X i 0 → b < 256 → i < length X → digits (8 * (i + 1)) (x * 256 + b) ≡ bytes (take (i + 1) X)
few-turn X i x b f e l h =
    let z : 8 * (i + 1) ≡ 8 * i + 8 = omega arith in
    let y : 0 + i ≡ i = omega arith in
    let g : get_or X (0 + i) 0 ≡ b = rw y (sym e) in
    rw (z, digits-split (8 * i) 8 x b l, f) (sym (bytes_next X 0 i (omega arith) ∙ rw g))

pub few-end : (X : List ℕ) (i x : ℕ) → i ≤ length X → length X ≤ i → digits (8 * i) x ≡ bytes (take i X) → digits (8 * length X) x ≡ bytes X
few-end X i x h g f = let e : i ≡ length X = omega arith in rw (e, take_all (length X) X (omega arith)) at f

module _ (i n x : ℕ) (h : i < n) (k : n < 8) (f : x < 2 ^ (8 * i)) where
  under-48 : x < 281474976710656
  under-48 = let p = pow_mono {i = 8 * i} {j = 48} (omega arith) in omega arith

  pub few-times : FitsIn w64 (x * 256)
  few-times = let u = under-48 in record { fits = omega arith }

  pub few-fits : (b : ℕ) → b < 256 → FitsIn w64 (x * 256 + b)
  few-fits b g = let u = under-48 in record { fits = omega arith }

pub few-small : (i x b : ℕ) → x < 2 ^ (8 * i) → b < 256 → x * 256 + b < 2 ^ (8 * (i + 1))
few-small i x b f g =
    let p : 2 ^ (8 * (i + 1)) ≡ 2 ^ (8 * i) * 2 ^ 8 = let e : 8 * (i + 1) ≡ 8 * i + 8 = omega arith in rw e (pow-add 2 (8 * i) 8) in
    rw p (omega arith)

pub few-none : 0 < 2 ^ (8 * 0)
few-none = omega arith

pub ruleset few_ways = (few-start, few-turn, few-end, few-times, few-fits, few-small, few-none)

-- put_text: the first i bytes are drawn
module _ (s : List ℕ) (p : Pen) (X : List ℕ) (room : Spare s p (8 * length X)) where
  abbrev so_far : ℕ → List ℕ
  so_far i = bytes (take i X)

  long : (i : ℕ) → i ≤ length X → length (so_far i) ≡ 8 * i
  long i h = length-bytes (take i X) ∙ omega (arith, length-take i X)

  pub text-start : Drawn s s p p (so_far 0)
  text-start = rw (bytes-none X 0) (drawn-none s p room.few)

  module _ (t : List ℕ) (q : Pen) (i : ℕ) (e : length t ≡ length s) (d : Drawn s t p q (so_far i)) where
    -- the next m bytes, and then so many are drawn
    on : (m j : ℕ) → j ≡ i + m → (u : List ℕ) (r : Pen) → Drawn t u q r (bytes (take m (drop i X))) → Drawn s u p r (so_far j)
    on m j z u r g =
        let o : 0 + i ≡ i = omega arith in
        drawn-as s u p r (so_far i ++ bytes (take m (drop i X))) (so_far j) (sym (ap so_far z ∙ (rw o at (bytes_on X 0 i m))))
        (drawn-both s t u p q r (so_far i) (bytes (take m (drop i X))) d g)

    pub text-spare : (m : ℕ) → i + m ≤ length X → Spare t q (8 * m)
    text-spare m h = spare-on s t p q (so_far i) (8 * length X) (8 * m) d room e (omega (arith, long i (omega arith)))

    pub text-done : i ≡ length X → Drawn s t p q (bytes X)
    text-done z = rw (z, take_all (length X) X (omega arith)) at d

    -- the last bytes
    module _ (a : ℕ) (z : i ≡ a) (h : a ≤ length X) where
      abbrev last : List ℕ
      last = take (length X - a) (drop a X)

      last_long : length last ≡ length X - a
      last_long = length-take (length X - a) (drop a X) ∙ omega (arith, length-drop a X)

      pub last-spare : Spare t q (8 * length last)
      last-spare = rw last_long (text-spare (length X - a) (omega arith))

      pub text-last : (u : List ℕ) (r : Pen) → Drawn t u q r (bytes last) → Drawn s u p r (bytes X)
      text-last u r g =
          let f : drop a X ≡ drop i X = ap (λ (k : ℕ). drop k X) (sym z) in
          let d : Drawn s u p r (so_far (length X)) = on (length X - a) (length X) (omega arith) u r (rw f at g) in
          rw (take_all (length X) X (omega arith)) at d

      pub text-few : (m x : ℕ) → m ≡ length X - a → digits (8 * length last) x ≡ bytes last → (u : List ℕ) (r : Pen) → Drawn t u q r (digits (8 * m) x) → Drawn s u p r (bytes X)
      text-few m x e f u r g = text-last u r (drawn-as t u q r (digits (8 * m) x) (bytes last) (ap (λ (k : ℕ). digits (8 * k) x) (e ∙ sym last_long) ∙ f) g)

  -- k times eight, or sixteen
  module _ (t : List ℕ) (q : Pen) (k : ℕ) (e : length t ≡ length s) where
    module _ (d : Drawn s t p q (so_far (8 * k))) where
      pub text-eight : k < length X / 8 → Spare t q 64
      text-eight h = text-spare t q (8 * k) e d 8 (omega arith)

      pub text-turn : k < length X / 8 → ((j : ℕ) → FitsIn w8 (get_or X j 0)) → (x : ℕ) → x ≡ num (bit_at X) (8 * (8 * k)) 64 → (u : List ℕ) (r : Pen) → Drawn t u q r (digits 64 x)
          → Drawn s u p r (so_far (8 * (k + 1)))
      text-turn h f x z u r g =
          on t q (8 * k) e d 8 (8 * (k + 1)) (omega arith) u r
          (drawn-as t u q r (digits 64 x) (bytes (take 8 (drop (8 * k) X))) (rw z (bytes-number X f (8 * k) 8 (omega arith))) g)

    module _ (d : Drawn s t p q (so_far (16 * k))) where
      pub text-sixteen : k < length X / 16 → Spare t q 128
      text-sixteen h = text-spare t q (16 * k) e d 16 (omega arith)

      pub text-part : (u : List ℕ) (r : Pen) → Drawn t u q r (bytes (take 16 (drop (16 * k) X))) → Drawn s u p r (so_far (16 * (k + 1)))
      text-part u r g = on t q (16 * k) e d 16 (16 * (k + 1)) (omega arith) u r g

pub ruleset rest_ways = (text-start, text-eight, text-turn, text-done)

-- put_sixteen: two words
module _ (s : List ℕ) (p : Pen) (X : List ℕ) (at : ℕ) (room : Spare s p 128) (inside : at + 16 ≤ length X) where
  pub sixteen-first : Spare s p 64
  sixteen-first = spare-less s p 128 64 room (omega arith)

  module _ (f : (j : ℕ) → FitsIn w8 (get_or X j 0)) (x : ℕ) (z : x ≡ num (bit_at X) (8 * at) 64) (t : List ℕ) (q : Pen) (g : Drawn s t p q (digits 64 x)) where
    pub sixteen-second : length t ≡ length s → Spare t q 64
    sixteen-second e = spare-on s t p q (digits 64 x) 128 64 g room e (omega (arith, length_digits 64 x))

    pub sixteen-done : (y : ℕ) → y ≡ num (bit_at X) (8 * (at + 8)) 64 → (u : List ℕ) (r : Pen) → Drawn t u q r (digits 64 y) → Drawn s u p r (bytes (take 16 (drop at X)))
    sixteen-done y w u r h =
        drawn-as s u p r (digits 64 x ++ digits 64 y) (bytes (take 16 (drop at X)))
        (rw (bytes_on X at 8 8, z, w, bytes-number X f at 8 (omega arith), bytes-number X f (at + 8) 8 (omega arith)) refl)
        (drawn-both s t u p q r (digits 64 x) (digits 64 y) g h)

pub ruleset sixteen_ways = (sixteen-first, sixteen-second, sixteen-done)

pub ruleset text_pen_ways = (text-start, text-sixteen, text-part)

-- put_counted: a part of the texts, as far as there are such
none_left : (n : ℕ) (l : List ℕ) → length l ≤ n → drop n l ≡ []
none_left zero [] k = refl
none_left (suc n) [] k = refl
none_left zero (x ∷ l) k = absurd (omega arith)
none_left (suc n) (x ∷ l) k = none_left n l (omega arith)

dropped : (X : List ℕ) (x : ℕ) → drop (min x (length X)) X ≡ drop x X
dropped X x = elim (dec_le x (length X)) [
  | yes k ↦ let z : min x (length X) ≡ x = omega arith in rw z
  | no k ↦ let z : min x (length X) ≡ length X = omega arith in rw z (none_left (length X) X (omega arith) ∙ sym (none_left x X (omega arith)))
]

taken-all : (l : List ℕ) (m : ℕ) → take (min m (length l)) l ≡ take m l
taken-all l m = elim (dec_le m (length l)) [
  | yes k ↦ let z : min m (length l) ≡ m = omega arith in rw z
  | no k ↦ let z : min m (length l) ≡ length l = omega arith in rw z (take_all (length l) l (omega arith) ∙ sym (take_all m l (omega arith)))
]

cut : (X : List ℕ) (m from x : ℕ) → from ≡ min x (length X) → take (min m (length X - from)) (drop from X) ≡ take m (drop x X)
cut X m from x e = rw (← length-drop from X) (taken-all (drop from X) m ∙ ap (take m) (ap (λ (i : ℕ). drop i X) e ∙ dropped X x))

pub counted-short : (y n : ℕ) (c : Coded) → Codes c (code5 n) → n ≡ y % 4096 → c.size < 64
counted-short y n c f e = omega (arith, sym (length_digits c.size c.bits) ∙ ap length f.is, code5-short n (omega arith))

module _ (s : List ℕ) (p : Pen) (X : List ℕ) (y n : ℕ) (e : n ≡ y % 4096) (c : Coded) (f : Codes c (code5 n)) where
  abbrev part : List ℕ
  part = take (y % 4096) (drop (y / 4096) X)

  count_long : c.size ≡ length (code5 n)
  count_long = sym (length_digits c.size c.bits) ∙ ap length f.is

  whole_long : length (text_bits X y) ≡ c.size + 8 * length part
  unfolding text_bits
  whole_long = length-append (code5 (y % 4096)) (bytes part) ∙ omega (arith, length-bytes part, count_long ∙ ap (λ (k : ℕ). length (code5 k)) e)

  pub counted-room : Spare s p (length (text_bits X y)) → Spare s p c.size
  counted-room r = spare-less s p (length (text_bits X y)) c.size r (omega (arith, whole_long))

  module _ (t : List ℕ) (q : Pen) (d : Drawn s t p q (digits c.size c.bits)) (from m : ℕ) (g : from ≡ min (y / 4096) (length X)) (h : m ≡ min n (length X - from)) where
    abbrev given : List ℕ
    given = take (from + m - from) (drop from X)

    given-is : given ≡ part
    given-is = let o : from + m - from ≡ m = omega arith in rw (o, h) (ap (λ (k : ℕ). take (min k (length X - from)) (drop from X)) e ∙ cut X (y % 4096) from (y / 4096) g)

    pub counted-inside : from + m ≤ length X
    counted-inside = omega arith

    pub counted-spare : Spare s p (length (text_bits X y)) → length t ≡ length s → Spare t q (8 * length given)
    counted-spare r k = spare-on s t p q (digits c.size c.bits) (length (text_bits X y)) (8 * length given) d r k (omega (arith, whole_long, length_digits c.size c.bits, ap length given-is))

    pub counted-done : (u : List ℕ) (r : Pen) → Drawn t u q r (bytes given) → Drawn s u p r (text_bits X y)
    unfolding text_bits
    counted-done u r b =
        drawn-as s u p r (digits c.size c.bits ++ bytes given) (code5 (y % 4096) ++ bytes part) (rw (f.is, given-is, e))
        (drawn-both s t u p q r (digits c.size c.bits) (bytes given) d b)

pub ruleset counted_ways = (counted-short, counted-room, counted-inside, counted-spare, counted-done)

-- put_date
module _ (s : List ℕ) (p : Pen) (y : ℕ) (r : Spare s p 64) where
  pub date-days : Spare s p 32
  date-days = spare-less s p 64 32 r (omega arith)

  module _ (t : List ℕ) (q : Pen) (d : Drawn s t p q (digits 32 (y / 134217728))) where
    pub date-clock : length t ≡ length s → Spare t q 32
    date-clock e = spare-on s t p q (digits 32 (y / 134217728)) 64 32 d r e (omega (arith, length_digits 32 (y / 134217728)))

    pub date-drawn : (u : List ℕ) (k : Pen) → Drawn t u q k (digits 32 (y % 134217728)) → Drawn s u p k (date_bits y)
    unfolding date_bits
    date-drawn u k g = drawn-both s t u p q k (digits 32 (y / 134217728)) (digits 32 (y % 134217728)) d g

pub ruleset date_pen_ways = (date-days, date-clock, date-drawn)

-- put_note
module _ (s : List ℕ) (p : Pen) (X : List ℕ) (x : ℕ) (r : Spare s p (length (note_bits X x))) where
  module _ (h : x < texts_from) where
    pub note-width : x / 2 ^ 41 < 64
    note-width = omega arith

    pub note-room : Spare s p (x / 2 ^ 41)
    unfolding code_bits
    note-room = rw (note-code X x h, length_digits (x / 2 ^ 41) x) at r

    pub note-drawn : (t : List ℕ) (q : Pen) → Drawn s t p q (digits (x / 2 ^ 41) x) → Drawn s t p q (note_bits X x)
    unfolding code_bits
    note-drawn t q d = rw (note-code X x h) d

  module _ (h : texts_from ≤ x) where
    module _ (g : x < dates_from) where
      pub note-text-room : Spare s p (length (text_bits X (x - texts_from)))
      note-text-room = rw (note-text X x h g) at r

      pub note-text-drawn : (t : List ℕ) (q : Pen) → Drawn s t p q (text_bits X (x - texts_from)) → Drawn s t p q (note_bits X x)
      note-text-drawn t q d = rw (note-text X x h g) d

    module _ (g : dates_from ≤ x) where
      date-long : length (date_bits (x - dates_from)) ≡ 64
      unfolding date_bits
      date-long = length-append (digits 32 ((x - dates_from) / 2 ^ 27)) (digits 32 ((x - dates_from) % 2 ^ 27)) ∙ omega (arith, length_digits 32 ((x - dates_from) / 2 ^ 27), length_digits 32 ((x - dates_from) % 2 ^ 27))

      pub note-date-room : Spare s p 64
      note-date-room = rw (note-date X x h g, date-long) at r

      pub note-date-drawn : (t : List ℕ) (q : Pen) → Drawn s t p q (date_bits (x - dates_from)) → Drawn s t p q (note_bits X x)
      note-date-drawn t q d = rw (note-date X x h g) d

pub ruleset put_note_ways = (note-width, note-room, note-drawn, note-text-room, note-text-drawn, note-date-room, note-date-drawn)

-- begin
module _ (s : List ℕ) (a : ℕ) where
  pub begin-whole : a % 8 ≡ 0 → Begun s a (record { next = a / 8; waiting = 0; count = a % 8 })
  unfolding digits
  begin-whole z = rw z (record { place = omega arith; few = omega arith; stands = tt })

  pub begin-part : (a % 8 ≡ 0 → ⊥) → (x : ℕ) → x ≡ get_or s (a / 8) 0 → x < 256 → Begun s a (record { next = a / 8; waiting = x / 2 ^ (8 - a % 8); count = a % 8 })
  begin-part z x e l =
      let f : 8 ≡ a % 8 + (8 - a % 8) = omega arith in
      let n : num (bit_at s) (8 * (a / 8)) 8 ≡ x = byte-num s (a / 8) (rw (← e) l) ∙ sym e in
      let k : x / 2 ^ (8 - a % 8) ≡ num (bit_at s) (8 * (a / 8)) (a % 8) =
      ap (λ (y : ℕ). y / 2 ^ (8 - a % 8)) (sym n ∙ ap (num (bit_at s) (8 * (a / 8))) f) ∙ num-high (bit_at s) (bit-lt s) (8 * (a / 8)) (a % 8) (8 - a % 8) in
      record { place = omega arith; few = omega arith; stands = rw k (digits-num (bit_at s) (bit-lt s) (8 * (a / 8)) (a % 8)) }

pub ruleset begin_ways = (begin-whole, begin-part)

-- put_last
module _ (s : List ℕ) (p : Pen) (r : Spare s p 0) where
  pub last-place : FitsIn w32 (8 * p.next)
  last-place = let f = r.near in record { fits = omega arith }

  pub last-high : p.waiting < 2 ^ 64 → FitsIn w32 (p.waiting / 2 ^ 32)
  last-high h = record { fits = omega arith }

  module _ (g : p.count ≤ 32) where
    pub last-room : Room s (8 * p.next) p.count
    last-room = let f = r.near in let k = r.fits in (omega arith, omega arith)

    pub last_done : (t : List ℕ) (q : ℕ) → Wrote s t (8 * p.next) (digits p.count (p.waiting % 4294967296)) q → Wrote s t (8 * p.next) (waits p) q
    last_done t q w = rw (digits_mod p.count 32 p.waiting g) at w

  module _ (g : 32 < p.count) where
    pub last-first : Room s (8 * p.next) (p.count - 32)
    last-first = let f = r.near in let k = r.fits in (omega arith, omega arith)

    module _ (t : List ℕ) (q : ℕ) (w : Wrote s t (8 * p.next) (digits (p.count - 32) (p.waiting / 2 ^ 32)) q) where
      pub last-second : length t ≡ length s → Room t q 32
      last-second e = let f = r.near in let k = r.fits in let n = w.next in let l = length_digits (p.count - 32) (p.waiting / 2 ^ 32) in (omega arith, omega arith)

      pub last-both : (u : List ℕ) (z : ℕ) → Wrote t u q (digits 32 (p.waiting % 4294967296)) z → Wrote s u (8 * p.next) (waits p) z
      last-both u z v =
          let e : p.count ≡ p.count - 32 + 32 = omega arith in
          let d : digits p.count p.waiting ≡ digits (p.count - 32) (p.waiting / 2 ^ 32) ++ digits 32 (p.waiting % 2 ^ 32) =
          ap (λ (n : ℕ). digits n p.waiting) e ∙ ap (digits (p.count - 32 + 32)) (sym (split p.waiting 32)) ∙ digits-split (p.count - 32) 32 (p.waiting / 2 ^ 32) (p.waiting % 2 ^ 32) (mod-lt p.waiting (pow_pos 32)) in
          rw d (wrote-both s t u (8 * p.next) q z (digits (p.count - 32) (p.waiting / 2 ^ 32)) (digits 32 (p.waiting % 2 ^ 32)) w v)

pub ruleset last_ways = (last-place, last-high, last-room, last_done, last-first, last-second, last-both)

-- end: bits that stand already behind what waits may be written with it
put_first : (b c : ℕ → ℕ) (at : ℕ) (l m : List ℕ) → Has b (at + length l) m → Put b c at (l ++ m) → Put b c at l
put_first b c at l m h f = record {
  stands = has_left c at l m f.stands;
  before = f.before;
  after = λ j k. same (at + length l) m j k h (has_right c at l m f.stands) (λ i g. f.after i (omega (arith, length-append l m)));
}
  where
    same : (at : ℕ) (m : List ℕ) (j : ℕ) → at ≤ j → Has b at m → Has c at m → ((i : ℕ) → at + length m ≤ i → c i ≡ b i) → c j ≡ b j
    same at [] j k h g f = f j (omega arith)
    same at (x ∷ m) j k h g f = elim (dec_le j at) [
      | yes y ↦ let e : j ≡ at = omega arith in rw e (g.0 ∙ sym h.0)
      | no y ↦ same (at + 1) m j (omega arith) h.1 g.1 (λ i q. f i (omega arith))
    ]

module _ (s : List ℕ) (p : Pen) (r : Spare s p 0) where
  pub end_none : p.count ≡ 0 → Wrote s s (8 * p.next) (waits p) (8 * p.next)
  unfolding digits
  end_none z = rw z (record { bits = put-none (bit_at s) (8 * p.next); next = omega arith })

  module _ (some : p.count ≡ 0 → ⊥) where
    abbrev free : ℕ
    free = 64 - p.count

    shifts : free < 64
    shifts = let f = r.few in omega (arith, some)

    together : p.count + free ≡ 64
    together = let f = r.few in omega arith

    pub end-mask : 0 < 1 * 2 ^ free % 2 ^ 64
    end-mask = rw (mask_is free shifts) (pow_pos free)

    module _ (x : ℕ) where
      abbrev word : ℕ
      word = p.waiting * 2 ^ free % 2 ^ 64 + x % (1 * 2 ^ free % 2 ^ 64)

      pub end_fits : FitsIn w64 word
      end_fits = record { fits = behind-fits p.waiting p.count free x (omega (arith, together)) shifts }

      word-digits : digits 64 word ≡ waits p ++ digits free x
      word-digits = ap (λ (n : ℕ). digits n word) (sym together) ∙ behind-digits p.waiting p.count free x (omega (arith, together)) shifts

      pub end-word : x ≡ num (bit_at s) (8 * p.next) 64 → (t : List ℕ) → Put (bit_at s) (bit_at t) (8 * p.next) (digits 64 word) → Wrote s t (8 * p.next) (waits p) (8 * p.next + p.count)
      end-word e t b =
          let l = length_digits p.count p.waiting in
          let all : Has (bit_at s) (8 * p.next) (digits 64 x) = rw e (digits-num (bit_at s) (bit-lt s) (8 * p.next) 64) in
          let cut : digits 64 x ≡ digits p.count (x / 2 ^ free) ++ digits free x = ap (λ (n : ℕ). digits n x) (sym together) ∙ digits-cut p.count free x in
          let behind : Has (bit_at s) (8 * p.next + length (waits p)) (digits free x) =
          rw (l ∙ sym (length_digits p.count (x / 2 ^ free))) (has_right (bit_at s) (8 * p.next) (digits p.count (x / 2 ^ free)) (digits free x) (rw cut at all)) in
          record { bits = put_first (bit_at s) (bit_at t) (8 * p.next) (waits p) (digits free x) behind (rw word-digits at b); next = omega (arith, l) }

pub ruleset end_ways = (end_none, end-mask, end_fits, end-word)

-- bits that stand already need not be written
put_rest : (b c : ℕ → ℕ) (at : ℕ) (l m : List ℕ) → Has b at l → Put b c at (l ++ m) → Put b c (at + length l) m
put_rest b c at l m h f = record {
  stands = has_right c at l m f.stands;
  before = λ j k. same at l j k h (has_left c at l m f.stands) (λ i g. f.before i g);
  after = λ j k. f.after j (omega (arith, length-append l m));
}
  where
    same : (at : ℕ) (l : List ℕ) (j : ℕ) → j < at + length l → Has b at l → Has c at l → ((i : ℕ) → i < at → c i ≡ b i) → c j ≡ b j
    same at [] j k h g f = f j (omega arith)
    same at (x ∷ l) j k h g f = same (at + 1) l j (omega arith) h.1 g.1 (λ i q. elim (dec_le at i) [
      | yes y ↦ let e : i ≡ at = omega arith in rw e (g.0 ∙ sym h.0)
      | no y ↦ f i (omega arith)
    ])

-- put_notes: the first i notes are drawn
taken-at : (N : List ℕ) (n i : ℕ) → i < length (take n N) → get_or (take n N) i 0 ≡ get_or N i 0
taken-at N n i h = let f : i < n = omega (arith, length-take n N) in get_or-take n N i 0 f

module _ (s : List ℕ) (at : ℕ) (X N : List ℕ) (p : Pen) (b : Begun s at p) where
  pub notes-start : Drawn s s p p (spells X N 0 0)
  notes-start = let f = b.few in rw (spells-none X N 0) (drawn-none s p (omega arith))

  begun-room : (n : ℕ) → Room s at n → Spare s p n
  begun-room n r = let f = b.few in let k = b.place in record { few = omega arith; fits = omega (arith, r.0); near = omega (arith, r.1) }

  module _ (n : ℕ) (r : Room s at (length (spells X N 0 n))) (t : List ℕ) (q : Pen) (i : ℕ) (e : length t ≡ length s) (d : Drawn s t p q (spells X N 0 i)) where
    pub notes-room : i < length (take n N) → Spare t q (length (note_bits X (get_or (take n N) i 0)))
    unfolding note_at
    notes-room f =
        let h : i < n = omega (arith, length-take n N) in
        let x = get_or (take n N) i 0 in
        let z : get_or (take n N) i 0 ≡ get_or N i 0 = taken-at N n i f in
        let split : spells X N 0 n ≡ spells X N 0 (i + 1) ++ spells X N (0 + (i + 1)) (n - (i + 1)) =
        let z : n ≡ (i + 1) + (n - (i + 1)) = omega arith in ap (spells X N 0) z ∙ spells-both X N 0 (i + 1) (n - (i + 1)) in
        let a = ap length split ∙ length-append (spells X N 0 (i + 1)) (spells X N (0 + (i + 1)) (n - (i + 1))) in
        let b = ap length (spells-last X N i) ∙ length-append (spells X N 0 i) (note_at X N i) in
        spare-on s t p q (spells X N 0 i) (length (spells X N 0 n)) (length (note_bits X x)) d (begun-room (length (spells X N 0 n)) r) e (rw z (omega arith))

    notes-on : (x : ℕ) → x ≡ get_or N i 0 → (u : List ℕ) (k : Pen) → Drawn t u q k (note_bits X x) → Drawn s u p k (spells X N 0 (i + 1))
    unfolding note_at
    notes-on x z u k g =
        drawn-as s u p k (spells X N 0 i ++ note_bits X x) (spells X N 0 (i + 1)) (sym (spells-last X N i ∙ rw (← z))) (drawn-both s t u p q k (spells X N 0 i) (note_bits X x) d g)

    module _ (f : i < length (take n N)) where
      pub notes-turn : (u : List ℕ) (k : Pen) → Drawn t u q k (note_bits X (get_or (take n N) i 0)) → Drawn s u p k (spells X N 0 (i + 1))
      notes-turn u k g = notes-on (get_or (take n N) i 0) (taken-at N n i f) u k g

      pub notes-pass : get_or (take n N) i 0 ≤ 0 → Drawn s t p q (spells X N 0 (i + 1))
      notes-pass h = let o : get_or (take n N) i 0 ≡ 0 = omega arith in notes-turn t q (rw (o, note-none X) (drawn-none t q d.few))

    module _ (a : n ≤ length N) (h : i ≤ length (take n N)) (g : length (take n N) ≤ i) where
      all-drawn : i ≡ n
      all-drawn = omega (arith, length-take n N)

      pub notes-left : Spare t q 0
      notes-left = let z = all-drawn in spare-on s t p q (spells X N 0 i) (length (spells X N 0 n)) 0 d (begun-room (length (spells X N 0 n)) r) e (rw z (omega arith))

      pub notes-end : (u : List ℕ) (z : ℕ) → Wrote t u (8 * q.next) (waits q) z → Wrote s u at (spells X N 0 n) z
      notes-end u z w =
          let y = all-drawn in
          let all = wrote-both s t u (8 * p.next) (8 * q.next) z d.put (waits q) d.stands w in
          let whole : Wrote s u (8 * p.next) (waits p ++ spells X N 0 n) z = rw (← d.same, y) at all in
          let l = length_digits p.count p.waiting in
          let at-is : 8 * p.next + length (waits p) ≡ at = omega (arith, b.place) in
          record {
            bits = rw at-is at (put_rest (bit_at s) (bit_at u) (8 * p.next) (waits p) (spells X N 0 n) b.stands whole.bits);
            next = omega (arith, whole.next, length-append (waits p) (spells X N 0 n), at-is);
          }

pub ruleset put_notes_ways = (notes-start, notes-room, notes-turn, notes-left, notes-end)
