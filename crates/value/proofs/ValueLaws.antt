-- The codes have the values that document 01's tables name and no others: each simple kind those of `InKind`, an occurs
-- row the counts from least to most; and none takes many bits.
use Prim.Native.Nat.{ℕ, zero, suc, ◌+◌, ◌-◌, ◌<◌, ◌≤◌, ◌^◌, min}
use mathlib.Core.Path.{◌≡◌, refl, sym, subst}
use mathlib.Core.Bool.{Bool, true, false, cond}
use mathlib.Core.List.{List, [], ◌∷◌, ◌++◌}
use native.Mathlib.Omega.{arith}
use borrow.Author.Tests.{ltb-true, ltb-false, eqb-true, eqb-false, leb-true}
use lib.Dec.{leb, ltb, eqb}
use lib.ListN.{length, length-append}
use Rattle.wire.specs.Bits.{digits}
use Rattle.wire.proofs.BitLaws.{length_digits}
use Rattle.wire.specs.Width.{width}
use Rattle.wire.proofs.Width.{width-under, width-pow}
use Rattle.wire.specs.Number.{code5}
use Rattle.signed.specs.Words.{rank, Gap, under, by, gap_of, sign_of, magnitude_of}
use Rattle.signed.proofs.Laws.{ordered, gap-over, gap-under}
use Rattle.utf8.specs.Rfc as rfc
use Rattle.utf8.specs.Text.{text_fault}
use Rattle.utf8.proofs.Exact.{fault-none, none-fault}
use Rattle.value.specs.Code.{Code, choice, five, signed, some, shifted, stamp, word_less, HasCode, bits_of}
use Rattle.value.specs.Simple.{Simple, plain, text, dated, first_word, second_word, nothing, span_code, range_code, unbounded_code, bounded_code, times_code, simple_of, count, bytes, AllBytes, SimpleIs, a_code, a_text, a_date}
use Rattle.calendar.specs.Plain.{date_of}
use Rattle.value.specs.Dates.{first_of, second_of, month_word, day_word, stamp_of, clock_end, Stamped, stamp_bits}
use Rattle.value.proofs.DateLaws.{clock-small, stamp-first, stamp-second, stamped-bits, stamp-length}
use Rattle.value.proofs.CodeLaws.{sign_small}
use Rattle.value.proofs.SimpleLaws.{length-bytes}
use Rattle.value.proofs.WriteWays.{code5-short, width_two}
use Rattle.value.specs.Values.{InKind}

-- BITS: so many at most
unfoldable pub most_bits : Code → ℕ
most_bits (choice n) = width n
most_bits (five m) = 40
most_bits signed = 41
most_bits (some c) = 1 + most_bits c
most_bits (shifted lo c) = most_bits c
most_bits (stamp clock) = 64

pub bits_most : (c : Code) (v : ℕ) → HasCode c v → length (bits_of c v) ≤ most_bits c
unfolding most_bits HasCode bits_of
bits_most (choice n) v h = omega (arith, length_digits (width n) v)
bits_most (five m) v h = code5-short v (omega arith)
bits_most signed v h =
    let s = length_digits (width 2) (sign_of v) in
    let m = code5-short (magnitude_of v) (sign_small v h).1 in
    omega (arith, length-append (digits (width 2) (sign_of v)) (code5 (magnitude_of v)), width_two)
bits_most (some c) zero h = omega (arith, length_digits (width 2) 0, width_two)
bits_most (some c) (suc k) h =
    let s = length_digits (width 2) 1 in
    omega (arith, length-append (digits (width 2) 1) (bits_of c (suc k)), width_two, bits_most c (suc k) h)
bits_most (shifted lo c) v h = bits_most c (word_less lo v) h.1
bits_most (stamp clock) v h = rw (stamped-bits clock v h) (go clock h.days h.ms)
  where
    go : (t : Bool) (n ms : ℕ) → length (stamp_bits t n ms) ≤ 64
    go true n ms = omega (arith, stamp-length true n ms)
    go false n ms = omega (arith, stamp-length false n ms)

-- RANGES: the words from b to c in the order of the signed numbers
module _ (b c v : ℕ) where
  -- in the fixed width or in vluimsbf5
  abbrev spanned : Bool → Code
  spanned t = shifted b (cond t (choice (rank c - rank b + 1)) (five (rank c - rank b)))

  by-gap : (t : Bool) → rank b ≤ rank c → HasCode (spanned t) v → (v < 2 ^ 32) × (rank b ≤ rank v) × (rank v ≤ rank c)
  unfolding HasCode
  by-gap true h f = let l = f.0 in let g = f.1 in omega arith
  by-gap false h f = let l = f.0 in let g = f.1 in omega arith

  gap_by : (t : Bool) → v < 2 ^ 32 → rank b ≤ rank v → rank v ≤ rank c → HasCode (spanned t) v
  unfolding HasCode
  gap_by true l m n = omega arith
  gap_by false l m n = omega arith

  pub range-values : HasCode (range_code b c) v → (v < 2 ^ 32) × (rank b ≤ rank v) × (rank v ≤ rank c)
  unfolding range_code span_code HasCode
  range-values f =
      ordered (rank c) (rank b)
      (λ h. absurd (let g = subst (λ (g : Gap). HasCode (span_code b g) v) (gap-under b c h) f in omega arith))
      (λ h. by-gap (leb (rank c - rank b) 65535) h (subst (λ (g : Gap). HasCode (span_code b g) v) (gap-over b c h) f))

  pub values-range : v < 2 ^ 32 → rank b ≤ rank v → rank v ≤ rank c → HasCode (range_code b c) v
  unfolding range_code span_code
  values-range l m n =
      subst (λ (g : Gap). HasCode (span_code b g) v) (sym (gap-over b c (omega arith)))
      (gap_by (leb (rank c - rank b) 65535) l m n)

range-short : (b c : ℕ) → most_bits (range_code b c) ≤ 40
unfolding range_code span_code most_bits
range-short b c = go (gap_of b c)
  where
    fixed : (k : ℕ) (t : Bool) → leb k 65535 ≡ t → most_bits (cond t (choice (k + 1)) (five k)) ≤ 40
    fixed k true e = omega (arith, leb-true k 65535 e, width-under (k + 1) 16 (omega (arith, leb-true k 65535 e)))
    fixed k false e = omega arith

    go : (g : Gap) → most_bits (span_code b g) ≤ 40
    go under = omega (arith, width-under 0 0 (omega arith))
    go (by k) = fixed k (leb k 65535) refl

-- OCCURRENCES: the counts from least to most and at most 65,535 (a most of 65,536 is unbounded)
bounded-values : (least most v : ℕ) → least ≤ most → most ≤ 65536 → HasCode (bounded_code least most) v
    → (least ≤ v) × (v ≤ most)
unfolding bounded_code HasCode
bounded-values zero most v h k f = go (leb most 1) f
  where
    some-most : (v : ℕ) → HasCode (some (choice (most + 1))) v → v ≤ most
    some-most zero f = omega arith
    some-most (suc v) f = omega arith

    go : (t : Bool) → HasCode (cond t (choice (most + 1)) (some (choice (most + 1)))) v → (0 ≤ v) × (v ≤ most)
    go true f = omega arith
    go false f = let g = some-most v f in omega arith
bounded-values (suc l) most v h k f = let a = f.0 in let b = f.1 in omega arith

unbounded-values : (least v : ℕ) → least ≤ 65535 → HasCode (unbounded_code least) v → (least ≤ v) × (v ≤ 65535)
unfolding unbounded_code HasCode
unbounded-values zero zero h f = omega arith
unbounded-values zero (suc v) h f = omega arith
unbounded-values (suc l) v h f = let a = f.0 in let b = f.1 in omega arith

values-bounded : (least most v : ℕ) → most ≤ 65535 → least ≤ v → v ≤ most → HasCode (bounded_code least most) v
unfolding bounded_code HasCode
values-bounded zero most v k h l = go (leb most 1)
  where
    some_fits : (v : ℕ) → v ≤ most → HasCode (some (choice (most + 1))) v
    some_fits zero l = tt
    some_fits (suc v) l = omega arith

    go : (t : Bool) → HasCode (cond t (choice (most + 1)) (some (choice (most + 1)))) v
    go true = omega arith
    go false = some_fits v l
values-bounded (suc k) most v m h l = omega arith

values-unbounded : (least v : ℕ) → least ≤ v → v ≤ 65535 → HasCode (unbounded_code least) v
unfolding unbounded_code HasCode
values-unbounded zero zero h l = tt
values-unbounded zero (suc v) h l = omega arith
values-unbounded (suc k) v h l = omega arith

bounded-short : (least most : ℕ) → most ≤ 65536 → most_bits (bounded_code least most) ≤ 41
unfolding bounded_code most_bits
bounded-short zero most h = go (leb most 1)
  where
    go : (t : Bool) → most_bits (cond t (choice (most + 1)) (some (choice (most + 1)))) ≤ 41
    go true = omega (arith, width-under (most + 1) 17 (omega arith))
    go false = omega (arith, width-under (most + 1) 17 (omega arith))
bounded-short (suc k) most h = omega (arith, width-under (most - suc k + 1) 17 (omega arith))

unbounded-short : (least : ℕ) → most_bits (unbounded_code least) ≤ 41
unfolding unbounded_code most_bits
unbounded-short zero = omega arith
unbounded-short (suc k) = omega arith

module _ (least most : ℕ) where
  -- which of its codes a row has
  abbrev chosen : Bool → Bool → Bool → Code
  chosen a b c = cond a nothing (cond b nothing (cond c (unbounded_code least) (bounded_code least most)))

  no-count : (v : ℕ) → HasCode nothing v → ⊥
  unfolding HasCode
  no-count v f = omega arith

  pub times-values : (v : ℕ) → HasCode (times_code least most) v → (least ≤ v) × (v ≤ most) × (v ≤ 65535)
  unfolding times_code
  times-values v f = go (ltb (min most 65535) least) (ltb 65536 most) (eqb most 65536) refl refl refl f
    where
      go : (a b c : Bool) → ltb (min most 65535) least ≡ a → ltb 65536 most ≡ b → eqb most 65536 ≡ c
          → HasCode (chosen a b c) v → (least ≤ v) × (v ≤ most) × (v ≤ 65535)
      go true b c x y z f = absurd (no-count v f)
      go false true c x y z f = absurd (no-count v f)
      go false false true x y z f =
          let h = ltb-false (min most 65535) least x in
          omega (arith, eqb-true most 65536 z, unbounded-values least v (omega arith) f)
      go false false false x y z f =
          let h = ltb-false (min most 65535) least x in
          let k = ltb-false 65536 most y in
          omega (arith, eqb-false most 65536 z, bounded-values least most v (omega arith) k f)

  module _ (h : most ≤ 65536) where
    pub values-times : (v : ℕ) → least ≤ v → v ≤ most → v ≤ 65535 → HasCode (times_code least most) v
    unfolding times_code
    values-times v k l m = go (ltb (min most 65535) least) (ltb 65536 most) (eqb most 65536) refl refl refl
      where
        go : (a b c : Bool) → ltb (min most 65535) least ≡ a → ltb 65536 most ≡ b → eqb most 65536 ≡ c
            → HasCode (chosen a b c) v
        go true b c x y z = absurd (omega (arith, ltb-true (min most 65535) least x))
        go false true c x y z = absurd (omega (arith, ltb-true 65536 most y))
        go false false true x y z = values-unbounded least v k m
        go false false false x y z = values-bounded least most v (omega (arith, eqb-false most 65536 z)) k l

    times-most : most_bits (times_code least most) ≤ 41
    unfolding times_code most_bits
    times-most = go (ltb (min most 65535) least) (ltb 65536 most) (eqb most 65536)
      where
        go : (a b c : Bool) → most_bits (chosen a b c) ≤ 41
        go true b c = omega (arith, width-under 0 0 (omega arith))
        go false true c = omega (arith, width-under 0 0 (omega arith))
        go false false true = unbounded-short least
        go false false false = bounded-short least most h

    pub times-short : (v : ℕ) → HasCode (times_code least most) v → length (bits_of (times_code least most) v) ≤ 41
    times-short v f = omega (arith, bits_most (times_code least most) v f, times-most)

-- TEXTS: one of RFC 3629 is of octets
octets-append : (c l : List ℕ) → AllBytes c → AllBytes l → AllBytes (c ++ l)
octets-append [] l h k = k
octets-append (x ∷ c) l h k = (h.0, octets-append c l h.1 k)

char-octets : {c : List ℕ} → rfc.Char c → AllBytes c
char-octets (rfc.utf8_1 a) = (omega arith, tt)
char-octets (rfc.utf8_2 a b) = (omega arith, (omega arith, tt))
char-octets (rfc.utf8_3_E0 a b c) = (omega arith, (omega arith, (omega arith, tt)))
char-octets (rfc.utf8_3_E1_EC a b c) = (omega arith, (omega arith, (omega arith, tt)))
char-octets (rfc.utf8_3_ED a b c) = (omega arith, (omega arith, (omega arith, tt)))
char-octets (rfc.utf8_3_EE_EF a b c) = (omega arith, (omega arith, (omega arith, tt)))
char-octets (rfc.utf8_4_F0 a b c d) = (omega arith, (omega arith, (omega arith, (omega arith, tt))))
char-octets (rfc.utf8_4_F1_F3 a b c d) = (omega arith, (omega arith, (omega arith, (omega arith, tt))))
char-octets (rfc.utf8_4_F4 a b c d) = (omega arith, (omega arith, (omega arith, (omega arith, tt))))

rfc-octets : {l : List ℕ} → rfc.Octets l → AllBytes l
rfc-octets rfc.empty = tt
rfc-octets (rfc.more {c} {l} h k) = octets-append c l (char-octets h) (rfc-octets k)

pub text-octets : (l : List ℕ) → text_fault l ≡ 0 → AllBytes l
text-octets l e = rfc-octets (none-fault l e).0

-- THE SIMPLE KINDS: a value of the kind, by its words, has bits, which are few
pub record HasBits (kind b c p q : ℕ) (X : List ℕ) : Type 0 where
  pub value : ℕ
  pub first : first_word (simple_of kind b c) value ≡ p
  pub second : second_word (simple_of kind b c) value ≡ q
  pub bits : List ℕ
  pub is : SimpleIs (simple_of kind b c) value X bits
  pub short : (kind ≡ 4 → b ≤ 65536) → length bits ≤ 32800

word-bits : {kind b c v : ℕ} (d : Code) → simple_of kind b c ≡ plain d → HasCode d v
    → ((kind ≡ 4 → b ≤ 65536) → most_bits d ≤ 41) → HasBits kind b c v 0 []
unfolding first_word second_word
word-bits {v} d e f n = record {
  value = v;
  first = rw e;
  second = rw e;
  bits = bits_of d v;
  is = rw e (a_code f);
  short = λ h. omega (arith, bits_most d v f, n h);
}

date-bits : {kind b c : ℕ} (clock : Bool) (days ms : ℕ) → simple_of kind b c ≡ dated (stamp clock) → days < 2 ^ 32 → ms < clock_end clock
    → HasBits kind b c (month_word (date_of days)) (day_word (date_of days) ms) []
unfolding first_word second_word HasCode most_bits
date-bits clock days ms e h k =
    let v : ℕ = stamp_of (date_of days) ms in
    let l = clock-small clock ms k in
    let f : Stamped clock v = record { days = days; ms = ms; a_word = h; in_day = k; is = refl } in
    record {
      value = v;
      first = rw e (stamp-first days ms h l);
      second = rw e (stamp-second days ms h l);
      bits = bits_of (stamp clock) v;
      is = rw e (a_date f);
      short = λ x. omega (arith, bits_most (stamp clock) v f);
    }

pub kind-bits : {kind b c p q : ℕ} {X : List ℕ} → InKind kind b c p q X → HasBits kind b c p q X
unfolding simple_of HasCode most_bits first_word second_word
kind-bits (InKind.boolean h) = word-bits (choice 2) refl h λ k. omega (arith, width_two)
kind-bits (InKind.ranged {b} {c} {v} h m n) =
    word-bits (range_code b c) refl (values-range b c v h m n) λ k. omega (arith, range-short b c)
kind-bits (InKind.unsigned h) = word-bits (five (2 ^ 32 - 1)) refl (omega arith) λ k. omega arith
kind-bits (InKind.signed h) = word-bits signed refl h λ k. omega arith
kind-bits (InKind.enumeration {b} h) = word-bits (choice b) refl h λ k. omega (arith, width-under b 16 (k refl))
kind-bits (InKind.text {X} h o a) = record {
  value = length X;
  first = refl;
  second = refl;
  bits = _;
  is = a_text {l = X} (omega arith) (rfc-octets o) (fault-none o a);
  short = λ k.
      let n = bits_most count (length X) (omega arith) in
      omega (arith, length-append (bits_of count (length X)) (bytes X), length-bytes X);
}
kind-bits (InKind.float h) = word-bits (choice (2 ^ 32)) refl h λ k. omega (arith, width-pow 32)
kind-bits (InKind.date_time days ms h k) = date-bits true days ms refl h k
kind-bits (InKind.date days h) = date-bits false days 0 refl h (omega arith)

-- and what its code has is a value of the kind
pub plain-is : {s : Simple} {v : ℕ} {X w : List ℕ} → SimpleIs s v X w → (c : Code) → s ≡ plain c → HasCode c v × (X ≡ [])
plain-is (a_code {c = d} {v} h) c e = let z : d ≡ c = cc in (rw z at h, refl)
plain-is (a_text h k z) c e = absurd (let n : ◌≡◌ {A = ℕ} 0 1 = cc in omega arith)
plain-is (a_date h) c e = absurd (let n : ◌≡◌ {A = ℕ} 0 1 = cc in omega arith)

date-is : {s : Simple} {v : ℕ} {X w : List ℕ} → SimpleIs s v X w → (c : Code) → s ≡ dated c → HasCode c v × (X ≡ [])
date-is (a_date {c = d} {v} h) c e = let z : d ≡ c = cc in (rw z at h, refl)
date-is (a_text h k z) c e = absurd (let n : ◌≡◌ {A = ℕ} 0 1 = cc in omega arith)
date-is (a_code h) c e = absurd (let n : ◌≡◌ {A = ℕ} 0 1 = cc in omega arith)

a_word : {kind b c v : ℕ} {X w : List ℕ} (d : Code) → SimpleIs (plain d) v X w → (HasCode d v → InKind kind b c v 0 [])
    → InKind kind b c v 0 X
a_word d h f = let p = plain-is h d refl in rw p.1 (f p.0)

-- a date by its words
a-day : {kind b c v : ℕ} {X w : List ℕ} (clock : Bool) → SimpleIs (dated (stamp clock)) v X w
    → ((days ms : ℕ) → days < 2 ^ 32 → ms < clock_end clock → InKind kind b c (month_word (date_of days)) (day_word (date_of days) ms) [])
    → InKind kind b c (first_of v) (second_of v) X
unfolding HasCode
a-day {v} clock h f =
    let p = date-is h (stamp clock) refl in
    let s : Stamped clock v = p.0 in
    let l = clock-small clock s.ms s.in_day in
    rw (p.1, s.is, stamp-first s.days s.ms s.a_word l, stamp-second s.days s.ms s.a_word l) (f s.days s.ms s.a_word s.in_day)

text-is : {s : Simple} {b c v : ℕ} {X w : List ℕ} → SimpleIs s v X w → s ≡ text → InKind 5 b c v 0 X
unfolding HasCode
text-is (a_code h) e = absurd (let n : ◌≡◌ {A = ℕ} 0 1 = cc in omega arith)
text-is (a_text {l} h k z) e = let n = none-fault l z in InKind.text {X = l} (omega arith) n.0 n.1
text-is (a_date h) e = absurd (let n : ◌≡◌ {A = ℕ} 0 1 = cc in omega arith)

pub kind-is : (kind b c v : ℕ) {X w : List ℕ} → SimpleIs (simple_of kind b c) v X w → InKind kind b c (first_word (simple_of kind b c) v) (second_word (simple_of kind b c) v) X
unfolding simple_of HasCode first_word second_word
kind-is zero b c v h = a_word (choice 2) h λ f. InKind.boolean f
kind-is (suc zero) b c v h =
    a_word (range_code b c) h λ f. let r = range-values b c v f in InKind.ranged r.0 r.1 r.2
kind-is (suc (suc zero)) b c v h = a_word (five (2 ^ 32 - 1)) h λ f. InKind.unsigned (omega arith)
kind-is (suc (suc (suc zero))) b c v h = a_word signed h λ f. InKind.signed f
kind-is (suc (suc (suc (suc zero)))) b c v h = a_word (choice b) h λ f. InKind.enumeration f
kind-is (suc (suc (suc (suc (suc zero))))) b c v h = text-is h refl
kind-is (suc (suc (suc (suc (suc (suc zero)))))) b c v h = a_word (choice (2 ^ 32)) h λ f. InKind.float f
kind-is (suc (suc (suc (suc (suc (suc (suc zero))))))) b c v h = a-day true h λ n ms k l. InKind.date_time n ms k l
kind-is (suc (suc (suc (suc (suc (suc (suc (suc zero)))))))) b c v h = a-day false h λ n ms k l. let z : ms ≡ 0 = omega arith in rw z (InKind.date n k)
kind-is (suc (suc (suc (suc (suc (suc (suc (suc (suc k))))))))) b c v h = a_word nothing h λ f. absurd (omega arith)
