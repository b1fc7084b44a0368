-- The laws of notes: what each kind spells, notes in two parts, notes that were kept.
use Prim.Native.Nat.{ℕ, zero, suc, ◌+◌, ◌-◌, ◌*◌, ◌/◌, ◌%◌, ◌^◌, ◌<◌, ◌≤◌}
use mathlib.Core.Path.{◌≡◌, refl, sym, ap, ap₂, ◌∙◌}
use mathlib.Core.List.{List, [], ◌++◌, append_assoc, append-nil}
use native.Mathlib.Nat.{add-zero, lt_of_lt_of_le}
use native.Mathlib.Omega.{arith}
use borrow.Author.Tests.{lt-ltb, le-ltb}
use lib.ListN.{length, get_or, take, drop, length-set}
use lib.Seq.{get_or-set_same, get_or-set_other}
use lib.Pow.{pow-add, pow_mono, high, low, mod-mod-pow}
use Rattle.wire.specs.Bits.{digits}
use Rattle.wire.proofs.Store.{digits_low}
use Rattle.wire.specs.Number.{code5}
use Rattle.value.specs.Simple.{bytes}
use Rattle.writer_parts.specs.Notes.{texts_from, dates_from, code_bits, text_bits, date_bits, note_bits, note_at, spells, keeps, text_note}

-- the lowest bits, whatever is above them
pub digits_mod : (w k v : ℕ) → w ≤ k → digits w (v % 2 ^ k) ≡ digits w v
digits_mod w k v h =
    let e : k ≡ (k - w) + w = omega arith in
    sym (digits_low w (v % 2 ^ k)) ∙ ap (digits w) (ap (λ (n : ℕ). v % 2 ^ n % 2 ^ w) e ∙ mod-mod-pow v (k - w) w) ∙ digits_low w v

pub digits_above : (w hi v : ℕ) → v < 2 ^ w → digits w (hi * 2 ^ w + v) ≡ digits w v
digits_above w hi v h = sym (digits_low w (hi * 2 ^ w + v)) ∙ ap (digits w) (low hi w h)

-- the kinds of notes
module _ (X : List ℕ) (x : ℕ) where
  pub note-code : x < texts_from → note_bits X x ≡ code_bits x
  unfolding note_bits
  note-code h = rw (lt-ltb x texts_from h)

  module _ (h : texts_from ≤ x) where
    pub note-text : x < dates_from → note_bits X x ≡ text_bits X (x - texts_from)
    unfolding note_bits
    note-text g = rw (le-ltb x texts_from h, lt-ltb x dates_from g)

    pub note-date : dates_from ≤ x → note_bits X x ≡ date_bits (x - dates_from)
    unfolding note_bits
    note-date g = rw (le-ltb x texts_from h, le-ltb x dates_from g)

pub note-none : (X : List ℕ) → note_bits X 0 ≡ []
unfolding code_bits digits
note-none X = note-code X 0 (omega arith)

-- a code's note, a text's, a date's
module _ (size bits : ℕ) (few : size ≤ 41) (fits : bits < 2 ^ size) where
  under : bits < 2199023255552
  under = lt_of_lt_of_le fits (pow_mono {i = size} {j = 41} few)

  sized : (size * 2199023255552 + bits) / 2 ^ 41 ≡ size
  sized = high size 41 under

  split : size * 2199023255552 + bits ≡ size * 2 ^ (41 - size) * 2 ^ size + bits
  split =
      let e : 41 - size + size ≡ 41 = omega arith in
      let p : 2 ^ (41 - size) * 2 ^ size ≡ 2199023255552 = sym (pow-add 2 (41 - size) size) ∙ rw e in
      let a : size * 2 ^ (41 - size) * 2 ^ size ≡ size * (2 ^ (41 - size) * 2 ^ size) = omega arith in
      rw (a, p)

  pub note-coded : (X : List ℕ) → note_bits X (size * 2199023255552 + bits) ≡ digits size bits
  unfolding code_bits
  note-coded X =
      let u = under in
      note-code X (size * 2199023255552 + bits) (omega arith) ∙ rw (sized, split) (digits_above size (size * 2 ^ (41 - size)) bits fits)

pub note-counted : (X : List ℕ) (n from : ℕ) → n ≤ 4095 → from < 2 ^ 32 → note_bits X (text_note n from) ≡ code5 n ++ bytes (take n (drop from X))
unfolding text_bits
note-counted X n from h g =
    let d : (text_note n from - texts_from) % 4096 ≡ n = omega arith in
    let e : (text_note n from - texts_from) / 4096 ≡ from = omega arith in
    note-text X (text_note n from) (omega arith) (omega arith) ∙ rw (d, e)

pub note-dated : (X : List ℕ) (days ms : ℕ) → ms < 2 ^ 27 → note_bits X (dates_from + days * 134217728 + ms) ≡ digits 32 days ++ digits 32 ms
unfolding date_bits
note-dated X days ms h =
    let d : (dates_from + days * 134217728 + ms - dates_from) % 2 ^ 27 ≡ ms = omega arith in
    let e : (dates_from + days * 134217728 + ms - dates_from) / 2 ^ 27 ≡ days = omega arith in
    note-date X (dates_from + days * 134217728 + ms) (omega arith) (omega arith) ∙ rw (d, e)

module _ (X N : List ℕ) where
  pub spells-none : (i : ℕ) → spells X N i 0 ≡ []
  unfolding spells
  spells-none i = refl

  pub spells-both : (i m n : ℕ) → spells X N i (m + n) ≡ spells X N i m ++ spells X N (i + m) n
  unfolding spells
  spells-both i zero n = let z : 0 + n ≡ n = omega arith in rw (z, add-zero i)
  spells-both i (suc m) n =
      let e : suc m + n ≡ suc (m + n) = omega arith in
      let f : i + 1 + m ≡ i + suc m = omega arith in
      rw (e, spells-both (i + 1) m n, f) (sym (append_assoc (note_at X N i) (spells X N (i + 1) m) (spells X N (i + suc m) n)))

  pub spells_one : (i : ℕ) → spells X N i 1 ≡ note_at X N i
  unfolding spells
  spells_one i = append-nil (note_at X N i)

  -- one more, for a loop
  pub spells-last : (n : ℕ) → spells X N 0 (n + 1) ≡ spells X N 0 n ++ note_at X N n
  spells-last n = spells-both 0 n 1 ∙ let e : 0 + n ≡ n = omega arith in rw (e, spells_one n)

  -- from i to k by way of j
  pub spells-by : (i j k : ℕ) → i ≤ j → j ≤ k → spells X N i (k - i) ≡ spells X N i (j - i) ++ spells X N j (k - j)
  spells-by i j k h g =
      let e : k - i ≡ (j - i) + (k - j) = omega arith in
      let f : i + (j - i) ≡ j = omega arith in
      rw (e, spells-both i (j - i) (k - j), f)

-- notes that agree
note-same : (X N M : List ℕ) (i : ℕ) → get_or M i 0 ≡ get_or N i 0 → note_at X M i ≡ note_at X N i
unfolding note_at
note-same X N M i f = rw f

pub spells-same : (X N M : List ℕ) (i n : ℕ) → ((j : ℕ) → i ≤ j → j < i + n → get_or M j 0 ≡ get_or N j 0) → spells X M i n ≡ spells X N i n
unfolding spells
spells-same X N M i zero f = refl
spells-same X N M i (suc n) f = ap₂ ◌++◌ (note-same X N M i (f i (omega arith) (omega arith))) (spells-same X N M (i + 1) n (λ j h g. f j (omega arith) (omega arith)))

-- a note that was kept
module _ (N : List ℕ) (i n : ℕ) where
  pub kept-other : (j : ℕ) → (j ≡ i → ⊥) → get_or (keeps N i n) j 0 ≡ get_or N j 0
  kept-other j h = get_or-set_other N i j n 0 h

  pub kept-length : length (keeps N i n) ≡ length N
  kept-length = length-set N i n

  pub kept-note : (X : List ℕ) → i < length N → note_at X (keeps N i n) i ≡ note_bits X n
  unfolding note_at
  kept-note X h = rw (get_or-set_same N i n 0 h)
