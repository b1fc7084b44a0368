-- A payload that was zero, with its mode byte and bits: the bytes that the meaning packs, and zeros after them.
use Prim.Native.Nat.{ℕ, zero, suc, ◌+◌, ◌-◌, ◌*◌, ◌/◌, ◌%◌, ◌^◌, ◌<◌, ◌≤◌}
use mathlib.Core.Path.{◌≡◌, refl, sym, ap, subst, ◌∙◌}
use mathlib.Core.List.{List, [], ◌∷◌, ◌++◌}
use mathlib.Core.Bool.{Bool, true, false}
use mir.Val.{Fits as FitsIn}
use mir.Syntax.{w8}
use native.Mathlib.Nat.{zero-div}
use native.Mathlib.Omega.{arith}
use native.Mathlib.Decide.{dec_lt}
use lib.ListN.{length, get_or, set, replicate, take, drop, length-append, length-replicate, length-set, get_or-append}
use lib.Seq.{get_or-set_same, get_or-set_other, get_or-append-add}
use Rattle.wire.specs.Bits.{bit_at, digits, source}
use Rattle.wire.specs.Number.{code5, code_of5, more}
use Rattle.wire.specs.Put.{Put, Room, Wrote}
use Rattle.wire.proofs.Put.{put_one, bytes_one}
use Rattle.value.specs.Simple.{bytes, AllBytes}
use Rattle.value.proofs.SimpleLaws.{bytes-octets}
use Rattle.model.specs.Grammar.{Bits}
use Rattle.model.proofs.Sums.{bits-append}
use Rattle.model.specs.Items.{Lengths}
use Rattle.model.specs.Modes.{lengths_is, mode_is}
use Rattle.model.specs.declared.Lengths as lengths_t
use Rattle.model.specs.declared.Lengths.TheVariants as lv
use Rattle.model.specs.declared.Mode as mode_t
use Rattle.model.specs.Pack.{pack}
use Rattle.model.proofs.PackLaws.{bit-next, bytes-bit, source-bit, source-past, each-has, pack-length}
use Rattle.model.specs.Whole.{mode, lengths_number, mode_byte, filled}
use Rattle.writer_parts.specs.Notes.{texts_from, dates_from, code_bits, text_bits, date_bits, note_bits, note_at, spells}
use Rattle.writer_parts.proofs.NoteLaws.{note-code, note-text, note-date}
use Rattle.writer.specs.Cleared.{Zeros}

-- what notes spell are bits
digits-bits : (w v : ℕ) → Bits (digits w v)
unfolding digits
digits-bits zero v = tt
digits-bits (suc w) v = bits-append (digits w (v / 2)) (v % 2 ∷ []) (digits-bits w (v / 2)) (omega arith, tt)

ones-bits : (n : ℕ) → Bits (replicate n 1)
ones-bits zero = tt
ones-bits (suc n) = (omega arith, ones-bits n)

five-bits : (v : ℕ) → Bits (code5 v)
unfolding code5 code_of5
five-bits v =
    let low : Bits (0 ∷ digits (4 * (more 7 v + 1)) v) = (omega arith, digits-bits (4 * (more 7 v + 1)) v) in
    bits-append (replicate (more 7 v) 1) (0 ∷ digits (4 * (more 7 v + 1)) v) (ones-bits (more 7 v)) low

bytes_bits : (l : List ℕ) → Bits (bytes l)
unfolding bytes
bytes_bits [] = tt
bytes_bits (x ∷ l) = bits-append (digits 8 x) (bytes l) (digits-bits 8 x) (bytes_bits l)

note-bits : (X : List ℕ) (x : ℕ) → Bits (note_bits X x)
unfolding code_bits text_bits date_bits
note-bits X x = elim (dec_lt x texts_from) [
  | yes h ↦ rw (note-code X x h) (digits-bits (x / 2 ^ 41) x)
  | no h ↦ elim (dec_lt x dates_from) [
    | yes k ↦
        let n = (x - texts_from) % 4096 in
        rw (note-text X x (omega arith) k) (bits-append (code5 n) (bytes (take n (drop ((x - texts_from) / 4096) X))) (five-bits n) (bytes_bits (take n (drop ((x - texts_from) / 4096) X))))
    | no k ↦
        let y = x - dates_from in
        rw (note-date X x (omega arith) (omega arith)) (bits-append (digits 32 (y / 2 ^ 27)) (digits 32 (y % 2 ^ 27)) (digits-bits 32 (y / 2 ^ 27)) (digits-bits 32 (y % 2 ^ 27)))
  ]
]

pub spells-bits : (X N : List ℕ) (i n : ℕ) → Bits (spells X N i n)
unfolding spells note_at
spells-bits X N i zero = tt
spells-bits X N i (suc n) = bits-append (note_bits X (get_or N i 0)) (spells X N (i + 1) n) (note-bits X (get_or N i 0)) (spells-bits X N (i + 1) n)

zero_in : (n j : ℕ) → ◌≡◌ {A = ℕ} (get_or (replicate n 0) j 0) 0
zero_in zero j = refl
zero_in (suc n) zero = refl
zero_in (suc n) (suc j) = zero_in n j

none_of : (m : ℕ) → 0 / m % 2 ≡ 0
none_of m = rw (zero-div m)

-- octets
octet-at : (l : List ℕ) → AllBytes l → (i : ℕ) → get_or l i 0 < 256
octet-at [] h i = omega arith
octet-at (x ∷ l) h zero = h.0
octet-at (x ∷ l) h (suc i) = octet-at l h.1 i

octets-zeros : (n : ℕ) → AllBytes (replicate n 0)
octets-zeros zero = tt
octets-zeros (suc n) = (omega arith, octets-zeros n)

octets-both : (a b : List ℕ) → AllBytes a → AllBytes b → AllBytes (a ++ b)
octets-both [] b h k = k
octets-both (x ∷ a) b h k = (h.0, octets-both a b h.1 k)

-- the mode byte
module _ (k : lengths_t.Lengths) where
  pub byte-never : k ≡ lv.Never → 0x0F ≡ mode_byte (mode (lengths_is k) false)
  unfolding mode_byte lengths_number lengths_is
  byte-never e = rw e

  pub byte-optional : k ≡ lv.Optional → 0x4F ≡ mode_byte (mode (lengths_is k) false)
  unfolding mode_byte lengths_number lengths_is
  byte-optional e = rw e

  pub byte-always : k ≡ lv.Always → 0x8F ≡ mode_byte (mode (lengths_is k) false)
  unfolding mode_byte lengths_number lengths_is
  byte-always e = rw e

pub ruleset lengths-byte-ways = (byte-never, byte-optional, byte-always)

byte_low : (k : Lengths) → mode_byte (mode k false) ≤ 0x8F
unfolding mode_byte lengths_number
byte_low Lengths.never = omega arith
byte_low Lengths.optional = omega arith
byte_low Lengths.always = omega arith

module _ (m : mode_t.Mode) (x : ℕ) (e : x ≡ mode_byte (mode (lengths_is m.lengths) false)) where
  pub first_plain : m.choices.derived ≡ false → x ≡ mode_byte (mode_is m)
  first_plain f = rw f e

  pub first-cast : m.choices.derived ≡ true → x + 0x10 ≡ mode_byte (mode_is m)
  unfolding mode_byte
  first-cast f = rw f (omega arith)

  pub first_fits : FitsIn w8 (x + 0x10)
  first_fits = let h = byte_low (lengths_is m.lengths) in record { fits = omega arith }

pub ruleset first-ways = (first_plain, first-cast, first_fits)

-- the packed bytes and zeros after them, bit by bit
module _ (k x : ℕ) (w : List ℕ) (h : Bits w) (fits : 1 + (length w + 7) / 8 ≤ k) (small : x < 256) where
  abbrev whole : List ℕ
  whole = filled k (x ∷ pack w)

  abbrev start : List ℕ
  start = set (replicate k 0) 0 x

  abbrev tail : List ℕ
  tail = replicate (k - length (x ∷ pack w)) 0

  whole_length : length whole ≡ k
  unfolding filled
  whole_length = length-append (x ∷ pack w) tail ∙ omega (arith, length-replicate {A = ℕ} (k - length (x ∷ pack w)) 0, pack-length w)

  whole-octets : AllBytes whole
  unfolding filled pack
  whole-octets = (small, octets-both (pack w) tail (bytes-octets (source w) (source-bit w h) 0 ((length w + 7) / 8)) (octets-zeros (k - length (x ∷ pack w))))

  -- past the mode byte
  inner : (i : ℕ) → bit_at whole (8 + i) ≡ bit_at (pack w ++ tail) i
  unfolding filled
  inner i = bit-next x (pack w ++ tail) i

  in-pack : (i : ℕ) → i < 8 * length (pack w) → bit_at (pack w ++ tail) i ≡ source w i
  unfolding bit_at pack
  in-pack i g =
      let b = bytes-bit (source w) (source-bit w h) 0 ((length w + 7) / 8) i (omega (arith, pack-length w)) in
      rw (get_or-append (pack w) tail 0 (i / 8) (omega arith)) (b ∙ ap (source w) (omega arith))

  past-pack : (i : ℕ) → 8 * length (pack w) ≤ i → bit_at (pack w ++ tail) i ≡ 0
  unfolding bit_at
  past-pack i g =
      let e : i / 8 ≡ length (pack w) + (i / 8 - length (pack w)) = omega arith in
      rw (e, get_or-append-add (pack w) tail (i / 8 - length (pack w)) 0, zero_in (k - length (x ∷ pack w)) (i / 8 - length (pack w))) (none_of (2 ^ (7 - i % 8)))

  bit-inner : (i : ℕ) → bit_at whole (8 + i) ≡ source w i
  bit-inner i = elim (dec_lt i (8 * length (pack w))) [
    | yes g ↦ inner i ∙ in-pack i g
    | no g ↦ inner i ∙ past-pack i (omega arith) ∙ sym (source-past w i (omega (arith, pack-length w)))
  ]

  start_first : get_or start 0 0 ≡ x
  start_first = get_or-set_same (replicate k 0) 0 x 0 (omega (arith, length-replicate {A = ℕ} k 0))

  start-after : (j : ℕ) → 8 ≤ j → bit_at start j ≡ 0
  unfolding bit_at
  start-after j g = rw (get_or-set_other (replicate k 0) 0 (j / 8) x 0 (λ e. omega arith), zero_in k (j / 8)) (none_of (2 ^ (7 - j % 8)))

  whole-first : (j : ℕ) → j < 8 → bit_at whole j ≡ bit_at start j
  unfolding bit_at filled
  whole-first j g = let e : j / 8 ≡ 0 = omega arith in rw (e, start_first)

  -- the whole is the start with the bits in it
  whole-put : Put (bit_at start) (bit_at whole) 8 w
  whole-put =
      record {
        stands = each-has (bit_at whole) 8 w (λ i g. bit-inner i);
        before = λ j g. whole-first j g;
        after = λ j g.
            let e : j ≡ 8 + (j - 8) = omega arith in
            ap (bit_at whole) e ∙ bit-inner (j - 8) ∙ source-past w (j - 8) (omega arith) ∙ sym (start-after j (omega arith));
      }

  -- so it is what the pen leaves
  pub drawn : (t : List ℕ) (p : ℕ) → Wrote start t 8 w p → length t ≡ k → ((i : ℕ) → get_or t i 0 < 256) → t ≡ whole
  drawn t p g len bytes =
      bytes_one t whole (len ∙ sym whole_length) bytes (octet-at whole whole-octets)
      (put_one (bit_at start) (bit_at t) (bit_at whole) 8 w g.bits whole-put)

-- draw
module _ (X N : List ℕ) (m : mode_t.Mode) (n x : ℕ) (s : List ℕ) (z : Zeros s) (e : x ≡ mode_byte (mode_is m)) (fits : 1 + (length (spells X N 0 n) + 7) / 8 ≤ length s) where
  byte_small : mode_byte (mode_is m) < 256
  unfolding mode_byte
  byte_small = go m.choices.derived (byte_low (lengths_is m.lengths))
    where
      go : (c : Bool) → mode_byte (mode (lengths_is m.lengths) false) ≤ 0x8F → mode_byte (mode (lengths_is m.lengths) c) < 256
      go true h = omega arith
      go false h = omega arith

  pub draw-room : length (spells X N 0 n) ≤ 100000000 → Room (set s 0 x) 8 (length (spells X N 0 n))
  draw-room h = let l = length-set s 0 x in omega arith

  pub draw-done : (t : List ℕ) (p : ℕ) → Wrote (set s 0 x) t 8 (spells X N 0 n) p → length t ≡ length (set s 0 x) → ((i : ℕ) → get_or t i 0 < 256) → t ≡ filled (length s) (mode_byte (mode_is m) ∷ pack (spells X N 0 n))
  draw-done t p g len bytes =
      let k = length s in
      let g' : Wrote (set (replicate k 0) 0 x) t 8 (spells X N 0 n) p = subst (λ (l : List ℕ). Wrote (set l 0 x) t 8 (spells X N 0 n) p) z.is g in
      drawn k x (spells X N 0 n) (spells-bits X N 0 n) fits (rw e byte_small) t p g' (len ∙ length-set s 0 x) bytes ∙ rw e

pub ruleset draw-ways = (draw-room, draw-done)
