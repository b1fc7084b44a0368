-- Each way through the functions that make a code a number, and a note of one.
use Prim.Native.Nat.{ℕ, zero, suc, ◌+◌, ◌-◌, ◌*◌, ◌^◌, ◌%◌, ◌<◌, ◌≤◌, min}
use mathlib.Core.Path.{◌≡◌, refl, sym, ap, ◌∙◌}
use mathlib.Core.Bool.{Bool, true, false, cond, true≢false}
use mathlib.Core.List.{List, ◌++◌, append-nil}
use native.Mathlib.Nat.{lt_of_lt_of_le}
use native.Mathlib.Omega.{arith}
use borrow.Author.Tests.{lt-ltb, le-ltb, le-leb, lt-leb, leb-true}
use mir.Val.{Fits as FitsIn}
use mir.Syntax.{w32, w64}
use lib.Dec.{ltb, leb, eqb}
use lib.ListN.{length, length-append}
use lib.Arith.{digits_lt}
use lib.Pow.{pow-add, pow_mono, shl_exact}
use Rattle.numbers.specs.Refusal.{outside_row}
use Rattle.numbers.specs.Limit.{most_times, unbounded}
use Rattle.wire.specs.Res.{Res, got, fault, ◌>>◌, guard}
use Rattle.wire.proofs.Res.{tested-then, tested-fault}
use Rattle.wire.specs.Bits.{digits}
use Rattle.wire.proofs.BitLaws.{length_digits}
use Rattle.wire.specs.Width.{width}
use Rattle.wire.proofs.Width.{width-holds, width-under, width-pow}
use Rattle.wire.specs.Number.{code5}
use Rattle.wire.specs.Coded.{Codes}
use Rattle.wire.specs.declared.Coded.{Coded}
use Rattle.wire.proofs.WriteWays.{digits-split}
use Rattle.signed.specs.Words.{down, sign_of}
use Rattle.signed.specs.Views.{Parts}
use Rattle.signed.proofs.Laws.{met-minus, met-plus}
use Rattle.value.specs.Code.{Code, choice, five, signed, some, shifted, stamp, bits_of, fits, code_out}
use Rattle.value.specs.Dates.{stamp_bits}
use Rattle.value.specs.Simple.{unbounded_code, bounded_code, times_code}
use Rattle.value.specs.Answer.{inner_is, code_is}
use Rattle.value.proofs.WriteWays.{width_two, code5-short}
use Rattle.value.specs.declared.Inner as inner_t
use Rattle.value.specs.declared.Inner.TheVariants as iv
use Rattle.value.specs.declared.Code as code_t
use Rattle.value.specs.declared.Code.TheVariants as cv
use Rattle.std.specs.Prelude.{Ok, Err}
use Rattle.numbers.specs.declared.refusal.Refusal.{Refusal}
use Rattle.numbers.specs.declared.refusal.Refusal.TheVariants as why
use Rattle.numbers.specs.Refused.{number_of}
use Rattle.writer_parts.specs.Notes.{Spelling, dates_from, Noted, Short, Flagged, Gives, Spelt, DateNote}
use Rattle.writer_parts.proofs.NoteLaws.{note-coded, note-dated}

-- what a code is, is so long
pub coded-long : (c : Coded) (w : List ℕ) → Codes c w → c.size ≡ length w
coded-long c w h = sym (length_digits c.size c.bits) ∙ ap length h.is

coded-digits : (c : Coded) (size bits : ℕ) → bits < 2 ^ size → c ≡ record { size = size; bits = bits } → Codes c (digits size bits)
coded-digits c size bits h e = rw e (record { is = refl; low = h })

-- flagged
module _ (flag : ℕ) (c : Coded) (small : flag < 2) (few : c.size ≤ 40) (low : c.bits < 2 ^ c.size) where
  abbrev shifted-flag : ℕ
  shifted-flag = flag * 2 ^ c.size % 2 ^ 64

  flag_is : shifted-flag ≡ flag * 2 ^ c.size
  flag_is = shl_exact {a = flag} 1 c.size 64 small (omega arith)

  flag-under : flag * 2 ^ c.size + c.bits < 2 ^ (c.size + 1)
  flag-under =
      let p : 2 ^ (c.size + 1) ≡ 2 * 2 ^ c.size = pow-add 2 c.size 1 ∙ omega arith in
      rw p (digits_lt small low)

  pub flag-fits : FitsIn w64 (shifted-flag + c.bits)
  flag-fits = record { fits = rw flag_is (lt_of_lt_of_le flag-under (pow_mono {i = c.size + 1} {j = 64} (omega arith))) }

  pub flag-long : FitsIn w32 (c.size + 1)
  flag-long = record { fits = omega arith }

  pub flag-shift : c.size < 64
  flag-shift = omega arith

  pub flag-done : Flagged flag c (record { size = c.size + 1; bits = shifted-flag + c.bits })
  flag-done = record {
    long = refl;
    is = λ w h. record {
      is = let one : c.size + 1 ≡ 1 + c.size = omega arith in rw (flag_is, one, digits-split 1 c.size flag c.bits low, h.is);
      low = rw flag_is flag-under;
    };
  }

pub ruleset flag_ways = (flag-fits, flag-long, flag-shift, flag-done)

-- a code that fits, or does not
module _ (c : Code) (v : ℕ) where
  code_got : fits c v ≡ true → code_out c v ≡ got (bits_of c v)
  unfolding code_out
  code_got t = tested-then outside_row t refl

  code-fault : fits c v ≡ false → code_out c v ≡ fault outside_row
  unfolding code_out
  code-fault t = tested-fault outside_row _ t

  module _ (most : ℕ) where
    spelt-got : (k : Coded) → fits c v ≡ true → Short most k (bits_of c v) → Spelt most (code_out c v) (Ok k)
    spelt-got k t h = record { is = record { bits = bits_of c v; out = code_got t; code = h } }

    spelt-fault : fits c v ≡ false → Spelt most (code_out c v) (Err why.OutsideRow)
    spelt-fault t = record { is = code-fault t }

-- what was spelt
module _ {most : ℕ} {m : Res (List ℕ)} {r : Spelling} (h : Spelt most m r) where
  pub spelt-code : (c : Coded) → r ≡ Ok c → Gives most m c
  spelt-code c w = rw w at h.is

  pub spelt-refuse : (n : Refusal) → r ≡ Err n → m ≡ fault (number_of n)
  spelt-refuse n w = rw w at h.is

pub short-few : (most : ℕ) (c : Coded) (w : List ℕ) → Short most c w → c.size ≤ most
short-few most c w h = h.few

pub short-low : (most : ℕ) (c : Coded) (w : List ℕ) → Short most c w → c.bits < 2 ^ c.size
short-low most c w h = h.code.low

short-wider : {m n : ℕ} → m ≤ n → (c : Coded) (w : List ℕ) → Short m c w → Short n c w
short-wider e c w h = let f = h.few in record { code = h.code; few = omega arith }

-- inner
module _ (i : inner_t.Inner) (v : ℕ) where
  module _ (n : ℕ) (w : i ≡ iv.Choice n) where
    pub inner-choice : (k x : ℕ) → v < n → n < 2 ^ 32 → k ≡ width n → x ≡ v → Spelt 40 (code_out (inner_is i) v) (Ok (record { size = k; bits = x }))
    unfolding inner_is fits bits_of
    inner-choice k x h s e f =
        let u = width-under n 32 (omega arith) in
        let l : v < 2 ^ width n = omega (arith, width-holds n) in
        rw (w, e, f) (spelt-got (choice n) v 40 (record { size = width n; bits = v }) (lt-ltb v n h) (record { code = record { is = refl; low = l }; few = omega arith }))

    pub inner-no-choice : n ≤ v → Spelt 40 (code_out (inner_is i) v) (Err why.OutsideRow)
    unfolding inner_is fits
    inner-no-choice h = rw w (spelt-fault (choice n) v 40 (le-ltb v n h))

  module _ (m : ℕ) (w : i ≡ iv.Five m) (s : v < 2 ^ 32) where
    pub inner-five : (c : Coded) → v ≤ m → Codes c (code5 v) → Spelt 40 (code_out (inner_is i) v) (Ok c)
    unfolding inner_is fits bits_of
    inner-five c h e = rw w (spelt-got (five m) v 40 c (le-leb v (min m (2 ^ 32 - 1)) (omega arith)) (record { code = e; few = omega (arith, coded-long c (code5 v) e, code5-short v s) }))

    pub inner-no-five : m < v → Spelt 40 (code_out (inner_is i) v) (Err why.OutsideRow)
    unfolding inner_is fits
    inner-no-five h = rw w (spelt-fault (five m) v 40 (lt-leb v (min m (2 ^ 32 - 1)) (omega arith)))

pub ruleset inner_ways = (inner-choice, inner-no-choice, inner-five, inner-no-five)

-- a five before which a flag comes
module _ (m : ℕ) (small : m < 2 ^ 32) (c : Coded) (h : Codes c (code5 m)) where
  pub five-few : c.size ≤ 40
  five-few = omega (arith, coded-long c (code5 m) h, code5-short m small)

  pub five-under : c.bits < 2 ^ c.size
  five-under = h.low

  pub flagged-five : (flag : ℕ) (r : Coded) → Flagged flag c r → Short 41 r (digits 1 flag ++ code5 m)
  flagged-five flag r f = let l = f.long in let k = five-few in record { code = f.is (code5 m) h; few = omega arith }

-- a sign and a magnitude
module _ (v : ℕ) (t : Bool) (m : ℕ) (h : Parts v t m) (small : m < 2 ^ 32) (c r : Coded) (e : Codes c (code5 m)) where
  signed-as : (s : ℕ) → sign_of v ≡ s → Flagged s c r → Short 41 r (bits_of signed v)
  unfolding bits_of
  signed-as s z f = rw (width_two, z, ← h.magnitude_is) (flagged-five m small c e s r f)

  pub signed-minus : t ≡ true → Flagged 1 c r → Short 41 r (bits_of signed v)
  signed-minus z f = signed-as 1 (met-minus h z) f

  pub signed-plus : t ≡ false → Flagged 0 c r → Short 41 r (bits_of signed v)
  signed-plus z f = signed-as 0 (met-plus h z) f

pub ruleset signed_ways = (five-few, five-under, signed-minus, signed-plus)

-- none, or some
pub some_is : (c : Code) (v : ℕ) → (v ≡ 0 → ⊥) → bits_of (some c) v ≡ digits 1 1 ++ bits_of c v
unfolding bits_of
some_is c zero z = absurd (z refl)
some_is c (suc k) z = rw width_two

pub none_is : (c : Code) (v : ℕ) → v ≡ 0 → bits_of (some c) v ≡ digits 1 0
unfolding bits_of
none_is c v z = rw (z, width_two)

some_fits : (c : Code) (v : ℕ) → (v ≡ 0 → ⊥) → fits (some c) v ≡ fits c v
unfolding fits
some_fits c zero z = absurd (z refl)
some_fits c (suc k) z = refl

none-fits : (c : Code) (v : ℕ) → v ≡ 0 → fits (some c) v ≡ true
unfolding fits
none-fits c v z = rw z

-- what a code is, where it is got, and that it is refused as outside
module _ (c : Code) (v : ℕ) where
  pub got-fits : (w : List ℕ) → code_out c v ≡ got w → (fits c v ≡ true) × (w ≡ bits_of c v)
  unfolding code_out
  got-fits w e = go (fits c v) refl e
    where
      go : (t : Bool) → fits c v ≡ t → (guard t outside_row >> got (bits_of c v)) ≡ got w → (fits c v ≡ true) × (w ≡ bits_of c v)
      go true f g = (f, let h = tested-then {t = true} outside_row {m = got (bits_of c v)} refl refl in cc)
      go false f g = absurd (let h = tested-fault {t = false} outside_row (got (bits_of c v)) refl in let z : ◌≡◌ {A = ℕ} 0 1 = cc in omega arith)

  fault-fits : (n : ℕ) → code_out c v ≡ fault n → (fits c v ≡ false) × (n ≡ outside_row)
  unfolding code_out
  fault-fits n e = go (fits c v) refl e
    where
      go : (t : Bool) → fits c v ≡ t → (guard t outside_row >> got (bits_of c v)) ≡ fault n → (fits c v ≡ false) × (n ≡ outside_row)
      go true f g = absurd (let h = tested-then {t = true} outside_row {m = got (bits_of c v)} refl refl in let z : ◌≡◌ {A = ℕ} 0 1 = cc in omega arith)
      go false f g = (f, let h = tested-fault {t = false} outside_row (got (bits_of c v)) refl in cc)

module _ (i : inner_t.Inner) (v : ℕ) where
  pub some-none : v ≡ 0 → Spelt 41 (code_out (some (inner_is i)) v) (Ok (record { size = 1; bits = 0 }))
  some-none z =
      spelt-got (some (inner_is i)) v 41 (record { size = 1; bits = 0 }) (none-fits (inner_is i) v z)
      (record { code = rw (none_is (inner_is i) v z) (record { is = refl; low = omega arith }); few = omega arith })

  module _ (z : v ≡ 0 → ⊥) (r : Spelling) (h : Spelt 40 (code_out (inner_is i) v) r) where
    pub some-refused : (n : Refusal) → r ≡ Err n → Spelt 41 (code_out (some (inner_is i)) v) (Err n)
    some-refused n w =
        let f = fault-fits (inner_is i) v (number_of n) (spelt-refuse h n w) in
        record { is = rw f.1 (code-fault (some (inner_is i)) v (some_fits (inner_is i) v z ∙ f.0)) }

    module _ (c : Coded) (w : r ≡ Ok c) where
      pub some-few : c.size ≤ 40
      some-few = (spelt-code h c w).code.few

      pub some-under : c.bits < 2 ^ c.size
      some-under = (spelt-code h c w).code.code.low

      pub some-some : (k : Coded) → Flagged 1 c k → Spelt 41 (code_out (some (inner_is i)) v) (Ok k)
      some-some k f =
          let g = spelt-code h c w in
          let e = got-fits (inner_is i) v g.bits g.out in
          let q = g.code.few in
          let l = f.long in
          spelt-got (some (inner_is i)) v 41 k (some_fits (inner_is i) v z ∙ e.0)
          (record { code = rw (some_is (inner_is i) v z, ← e.1) (f.is g.bits g.code.code); few = omega arith })

pub ruleset some_ways = (some-none, some-refused, some-few, some-under, some-some)

-- number
pub spelt-wider : (m : Res (List ℕ)) (r : Spelling) → Spelt 40 m r → Spelt 41 m r
spelt-wider m (Err n) h = record { is = h.is }
spelt-wider m (Ok c) h = let g = h.is in record { is = record { bits = g.bits; out = g.out; code = short-wider (omega arith) c g.bits g.code } }

module _ (c : code_t.Code) (v : ℕ) (r : Spelling) where
  pub number-plain : (i : inner_t.Inner) → c ≡ cv.Plain i → Spelt 40 (code_out (inner_is i) v) r → Spelt 41 (code_out (code_is c) v) r
  unfolding code_is
  number-plain i w h = rw w (spelt-wider _ r h)

  pub number-some : (i : inner_t.Inner) → c ≡ cv.Some i → Spelt 41 (code_out (some (inner_is i)) v) r → Spelt 41 (code_out (code_is c) v) r
  unfolding code_is
  number-some i w h = rw w h

  shifted-out : (lo : ℕ) (d : Code) → lo < 2 ^ 32 → v < 2 ^ 32 → code_out d (down lo v) ≡ code_out (shifted lo d) v
  unfolding code_out fits bits_of
  shifted-out lo d h s = let e : lo % 2 ^ 32 ≡ lo = omega arith in rw (lt-ltb v (2 ^ 32) s, e)

  pub number-shifted : (lo : ℕ) (i : inner_t.Inner) (k : ℕ) → c ≡ cv.Shifted lo i → lo < 2 ^ 32 → v < 2 ^ 32 → k ≡ down lo v → Spelt 40 (code_out (inner_is i) k) r → Spelt 41 (code_out (code_is c) v) r
  unfolding code_is
  number-shifted lo i k w h s e f = rw (w, ← shifted-out lo (inner_is i) h s, ← e) (spelt-wider _ r f)

module _ (c : code_t.Code) (v : ℕ) (s : v < 2 ^ 32) where
  pub number_word : (x : ℕ) → c ≡ cv.Word → x ≡ v → Spelt 41 (code_out (code_is c) v) (Ok (record { size = 32; bits = x }))
  unfolding code_is fits bits_of
  number_word x w e =
      rw (w, e) (spelt-got (choice (2 ^ 32)) v 41 (record { size = 32; bits = v }) (lt-ltb v (2 ^ 32) s) (record { code = rw (width-pow 32) (record { is = refl; low = omega arith }); few = omega arith }))

  pub number-signed : (k : Coded) → c ≡ cv.Signed → Short 41 k (bits_of signed v) → Spelt 41 (code_out (code_is c) v) (Ok k)
  unfolding code_is fits
  number-signed k w h = rw w (spelt-got signed v 41 k (lt-ltb v (2 ^ 32) s) h)

pub ruleset number_ways = (number-plain, number_word, number-signed, number-some, number-shifted)

-- count: an occurs row has no code of a word or with a sign
counts : Code → Bool
counts (choice n) = ltb n 3
counts (five m) = false
counts signed = false
counts (some d) = true
counts (shifted lo d) = true
counts (stamp clock) = false

bounded-counts : (least most : ℕ) → counts (bounded_code least most) ≡ true
unfolding bounded_code counts
bounded-counts zero most = go (leb most 1) refl
  where
    go : (t : Bool) → leb most 1 ≡ t → counts (cond t (choice (most + 1)) (some (choice (most + 1)))) ≡ true
    go true e = lt-ltb (most + 1) 3 (omega (arith, leb-true most 1 e))
    go false e = refl
bounded-counts (suc k) most = refl

unbounded-counts : (least : ℕ) → counts (unbounded_code least) ≡ true
unfolding unbounded_code counts
unbounded-counts zero = refl
unbounded-counts (suc k) = refl

times-counts : (least most : ℕ) → counts (times_code least most) ≡ true
unfolding times_code counts
times-counts least most = first (ltb (min most most_times) least) (ltb unbounded most) (eqb most unbounded)
  where
    first : (s t u : Bool) → counts (cond s (choice 0) (cond t (choice 0) (cond u (unbounded_code least) (bounded_code least most)))) ≡ true
    first true t u = refl
    first false true u = refl
    first false false true = unbounded-counts least
    first false false false = bounded-counts least most

module _ (least most v : ℕ) (c : code_t.Code) (e : code_is c ≡ times_code least most) (r : Spelling) where
  pub count-plain : (i : inner_t.Inner) → c ≡ cv.Plain i → Spelt 40 (code_out (inner_is i) v) r → Spelt 41 (code_out (times_code least most) v) r
  count-plain i w h = rw (← e) (number-plain c v r i w h)

  pub count-some : (i : inner_t.Inner) → c ≡ cv.Some i → Spelt 41 (code_out (some (inner_is i)) v) r → Spelt 41 (code_out (times_code least most) v) r
  count-some i w h = rw (← e) (number-some c v r i w h)

  pub count-shifted : (lo : ℕ) (i : inner_t.Inner) (k : ℕ) → c ≡ cv.Shifted lo i → lo < 2 ^ 32 → v < 2 ^ 32 → k ≡ down lo v → Spelt 40 (code_out (inner_is i) k) r → Spelt 41 (code_out (times_code least most) v) r
  count-shifted lo i k w h s f g = rw (← e) (number-shifted c v r lo i k w h s f g)

  pub count_word : c ≡ cv.Word → Spelt 41 (code_out (times_code least most) v) r
  unfolding code_is counts
  count_word w = absurd (true≢false (sym (times-counts least most) ∙ ap counts (sym e) ∙ ap (λ (d : code_t.Code). counts (code_is d)) w))

  pub count-signed : c ≡ cv.Signed → Spelt 41 (code_out (times_code least most) v) r
  unfolding code_is counts
  count-signed w = absurd (true≢false (sym (times-counts least most) ∙ ap counts (sym e) ∙ ap (λ (d : code_t.Code). counts (code_is d)) w))

pub ruleset count_ways = (count-plain, count-some, count-shifted, count_word, count-signed)

-- note_of
module _ (c : Coded) (few : c.size ≤ 41) (low : c.bits < 2 ^ c.size) where
  under : c.bits < 2199023255552
  under = lt_of_lt_of_le low (pow_mono {i = c.size} {j = 41} few)

  pub note-of-part : FitsIn w64 (c.size * 2199023255552)
  note-of-part = record { fits = omega arith }

  pub note-of-fits : FitsIn w64 (c.size * 2199023255552 + c.bits)
  note-of-fits = let u = under in record { fits = omega arith }

  pub note-of-done : Noted (c.size * 2199023255552 + c.bits) (digits c.size c.bits)
  note-of-done = record { is = λ X. note-coded c.size c.bits few low X }

pub ruleset note_of_ways = (note-of-part, note-of-fits, note-of-done)

-- a date
module _ (clock : Bool) (days ms : ℕ) where
  pub date-timed : clock ≡ true → ms < 2 ^ 27 → DateNote (record { note = dates_from + days * 134217728 + ms; bits = 64 }) (stamp_bits clock days ms)
  unfolding stamp_bits
  date-timed t h = rw t (record {
    note = record { is = λ X. note-dated X days ms h };
    long = omega (arith, length-append (digits 32 days) (digits 32 ms), length_digits 32 days, length_digits 32 ms);
    short = omega arith;
  })

  pub date-plain : clock ≡ false → days < 2 ^ 32 → DateNote (record { note = 70368744177664 + days; bits = 32 }) (stamp_bits clock days ms)
  unfolding stamp_bits
  date-plain t h = rw (t, append-nil (digits 32 days)) (record {
    note = record { is = λ X. note-coded 32 days (omega arith) h X };
    long = omega (arith, length_digits 32 days);
    short = omega arith;
  })

pub ruleset date_note_ways = (date-timed, date-plain)
