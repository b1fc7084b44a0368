-- ONE PAYLOAD NEVER BEGINS ANOTHER: what was read of one payload's used bits is read of any octets that begin with them, so that nothing else can be.
use Prim.Native.Nat.{ℕ, zero, suc, ◌+◌, ◌*◌, ◌/◌, ◌<◌, ◌≤◌}
use mathlib.Core.Path.{◌≡◌, refl, sym, ap, ap₂, ◌∙◌}
use mathlib.Core.Logic.{◌⊎◌, inl, inr}
use mathlib.Core.List.{List, [], ◌∷◌, ◌++◌, map, flat_map, append-nil, append_cancel_left, head-eq_of_cons-eq, tail-eq_of_cons-eq}
use native.Mathlib.Omega.{arith}
use lib.ListN.{length, length-append, get_or, take, drop, get_or-append}
use Rattle.numbers.specs.Limit.{most_payload}
use Rattle.wire.specs.Bits.{bit_at, Has, source}
use Rattle.wire.proofs.BitLaws.{at_same}
use Rattle.table.specs.Rows.{table_of, held_of}
use Rattle.model.specs.Model.{events, texts}
use Rattle.model.specs.Model.Answer.{given}
use Rattle.model.specs.Items.{Mode}
use Rattle.model.specs.Write.{bare}
use Rattle.model.specs.Plain.{NoBlank}
use Rattle.model.specs.Whole.{accepted, made, written, room_of, reading, event_words}
use Rattle.model.specs.Entries.{plan_of}
use Rattle.model.proofs.PackLaws.{num-moved, has-each}
use Rattle.model.proofs.Entries.{mode-asked, writing-entered, list_back}
use Rattle.model.proofs.EntryWays.{mode-byte, padding-many, reading-left}
use Rattle.theorems.specs.Open.{Begins}
use Rattle.theorems.specs.Payload.{Moded}
use Rattle.theorems.specs.Reader.{IsReading}
use Rattle.theorems.proofs.Lists.{bare-none, none_bare}
use Rattle.theorems.proofs.Complete.{is_read}
use Rattle.theorems.proofs.One.{unambiguous}
use Rattle.theorems.proofs.Payload.{moded-then, payload-bytes}
use Rattle.theorems.proofs.Demand2.{had, read-write}
use Rattle.theorems.proofs.Reader.{reading-sound}
use Rattle.theorems.proofs.UnseenPayload.{first_byte}
use Rattle.theorems.specs.Prefix.{bits_from, Payload, used_bits, Shortest, Same, Rest, Prefix}

-- octets behind others change no bit of them
bits-append : (s r : List ℕ) (i : ℕ) → i < 8 * length s → bit_at (s ++ r) i ≡ bit_at s i
unfolding bit_at
bits-append s r i h = rw (get_or-append s r 0 (i / 8) (omega arith))

take_all : (s r : List ℕ) → take (length s) (s ++ r) ≡ s
take_all [] r = refl
take_all (x ∷ s) r = ap (λ (m : List ℕ). x ∷ m) (take_all s r)

drop_all : (s r : List ℕ) → drop (length s) (s ++ r) ≡ r
drop_all [] r = refl
drop_all (x ∷ s) r = drop_all s r

-- bits from a place on stand there
from-has : (s : List ℕ) (at n : ℕ) → Has (bit_at s) at (bits_from s at n)
unfolding bits_from
from-has s at zero = tt
from-has s at (suc n) = (refl, from-has s (at + 1) n)

from-length : (s : List ℕ) (at n : ℕ) → length (bits_from s at n) ≡ n
unfolding bits_from
from-length s at zero = refl
from-length s at (suc n) = ap suc (from-length s (at + 1) n)

from-bit : (s : List ℕ) (n i : ℕ) → i < n → source (bits_from s 0 n) i ≡ bit_at s i
from-bit s n i h = has-each (bit_at s) 0 (bits_from s 0 n) (from-has s 0 n) i (omega (arith, from-length s 0 n)) ∙ ap (bit_at s) (omega arith)

-- of two beginnings of one list one begins the other
either : (s t X Y : List ℕ) → s ++ X ≡ t ++ Y → Begins s t ⊎ Begins t s
either [] t X Y e = inl (record { more = t; is = refl })
either (x ∷ s) [] X Y e = inr (record { more = x ∷ s; is = refl })
either (x ∷ s) (y ∷ t) X Y e = elim (either s t X Y (tail-eq_of_cons-eq e)) [
  | inl b ↦ inl (record { more = b.more; is = ap₂ ◌∷◌ (sym (head-eq_of_cons-eq e)) b.is })
  | inr b ↦ inr (record { more = b.more; is = ap₂ ◌∷◌ (head-eq_of_cons-eq e) b.is })
]

-- what never begins another, and is never empty, comes apart in one way
module _ {A : Type 0} (f g : A → List ℕ) (filled : (a : A) → 1 ≤ length (f a)) (alone : (a b : A) → Begins (f a) (f b) → (f a ≡ f b) × (g a ≡ g b)) where
  no_more : (a : A) (S : List A) → flat_map f (a ∷ S) ≡ [] → ⊥
  unfolding flat_map
  no_more a S e = let n = ap length e in omega (arith, length-append (f a) (flat_map f S), filled a)

  apart : (S T : List A) → flat_map f S ≡ flat_map f T → map g S ≡ map g T
  unfolding flat_map
  apart [] [] e = refl
  apart [] (b ∷ T) e = absurd (no_more b T (sym e))
  apart (a ∷ S) [] e = absurd (no_more a S e)
  apart (a ∷ S) (b ∷ T) e =
      let z : (f a ≡ f b) × (g a ≡ g b) = elim (either (f a) (f b) (flat_map f S) (flat_map f T) e) [
        | inl h ↦ alone a b h
        | inr h ↦ let y = alone b a h in (sym y.0, sym y.1)
      ] in
      let rest = append_cancel_left (f b) (flat_map f S) (flat_map f T) (sym (ap (λ (m : List ℕ). m ++ flat_map f S) z.0) ∙ e) in
      ap₂ ◌∷◌ z.1 (apart S T rest)

module _ (l : List ℕ) (party name type : ℕ) {words bytes : ℕ} where
  sound : (s : Payload l party name type words bytes) → IsReading l party name type s.octets words bytes s.mode s.tree s.used
  sound s = reading-sound l party name type s.octets words bytes s.mode s.tree s.used s.reads

  -- byte 0 is among the used bits, so there is one mode
  one-mode : (s t : Payload l party name type words bytes) → ((i : ℕ) → i < 8 → bit_at s.octets i ≡ bit_at t.octets i) → s.mode ≡ t.mode
  one-mode s t same =
      let D = (table_of l).derivations in
      let h = (sound s).is.mode-byte in
      let k = (sound t).is.mode-byte in
      let byte : get_or s.octets 0 0 ≡ get_or t.octets 0 0 =
      first_byte s.octets s.small h.filled
      ∙ num-moved (bit_at s.octets) (bit_at t.octets) 0 0 8 (λ j z. same (0 + j) (omega arith))
      ∙ sym (first_byte t.octets t.small k.filled) in
      let a = moded-then D s.octets s.mode h in
      let b = moded-then D t.octets t.mode k in
      let c = mode-byte D s.octets h.filled h.few in
      let d = mode-byte D t.octets k.filled k.few in
      cc

  -- what the grammar has for the used bits of s stands in t, where it has nothing else; and bytes are those of their bits
  never-begins : (s t : Payload l party name type words bytes) → ((i : ℕ) → i < s.used → bit_at s.octets i ≡ bit_at t.octets i) → Same l party name type s t
  never-begins s t same =
      let h = (sound s).is in
      let next = h.found.stands.next in
      let mode = one-mode s t (λ i z. same i (omega arith)) in
      let reads : reading l party name type t.octets words bytes ≡ accepted s.mode t.tree t.used =
      t.reads ∙ ap (λ (m : Mode). accepted m t.tree t.used) (sym mode) in
      let k = (reading-sound l party name type t.octets words bytes s.mode t.tree t.used reads).is in
      let there = at_same (λ i a z. sym (same i z)) h.found.stands in
      let one = unambiguous s.mode.lengths (held_of l party) (plan_of l name type s.mode.casting) (bit_at t.octets) h.found.is there k.found.is k.found.stands in
      let bits = one.bits in
      let room = room_of words bytes in
      let a = payload-bytes (held_of l party) (plan_of l name type) (table_of l).derivations s.octets room s.mode s.tree s.used s.small h in
      let b = payload-bytes (held_of l party) (plan_of l name type) (table_of l).derivations t.octets room s.mode t.tree t.used t.small k in
      record { octets = cc; mode = mode; tree = one.trees; used = one.next }

  -- a payload is what is written of its list, in which no fourth word is looked at
  written_back : (s : Payload l party name type words bytes) → NoBlank (events s.tree) → Shortest l party name type s
      → written (held_of l party) (plan_of l name type s.mode.casting) s.mode (map bare (events s.tree)) (texts s.tree) most_payload ≡ made s.octets s.used
  written_back s none short =
      let L = event_words (events s.tree) in
      let r = had l party name type s.octets words bytes s.mode s.tree s.used s.reads in
      let asked = mode-asked (table_of l).derivations s.mode r.payload.mode-byte.casts in
      let w = writing-entered l party name type _ L (texts s.tree) most_payload s.mode r.enters asked r.shape in
      let m = read-write l party name type s.octets words bytes most_payload s.mode s.tree s.used s.small s.reads none short r.few in
      rw (← (list_back (events s.tree))) (sym w ∙ m)

  -- the reading goes on past the payload's end no further than it did, and a byte or more is left there
  rest-is-17 : (s : Payload l party name type words bytes) (r : List ℕ) → 1 ≤ length r → length (s.octets ++ r) ≤ most_payload → Rest l party name type s r
  rest-is-17 s r some few =
      let i = sound s in
      let h = i.is in
      let f = h.found in
      let D = (table_of l).derivations in
      let all = s.octets ++ r in
      let n = length-append s.octets r in
      let within = f.within in
      let short = h.pads.short in
      let filled = h.mode-byte.filled in
      let byte : get_or all 0 0 ≡ get_or s.octets 0 0 = get_or-append s.octets r 0 0 (omega arith) in
      let moded : Moded D all s.mode = record { filled = omega arith; few = few; byte = byte ∙ h.mode-byte.byte; casts = h.mode-byte.casts } in
      let there = at_same (λ j a z. bits-append s.octets r j (omega arith)) f.stands in
      let reads = is_read (bit_at all) s.mode.lengths (held_of l party) f.is (room_of words bytes) [] (8 * length all) s.used there (omega arith) f.slots f.bytes in
      let left = padding-many all s.used (omega arith) in
      let size : (s.used + 7) / 8 ≡ length s.octets = omega arith in
      record {
        refuses = reading-left l party name type all words bytes i.enters s.mode (moded-then D all s.mode moded) (given s.tree s.used) reads s.tree s.used refl left;
        first = rw size (take_all s.octets r);
        second = rw size (drop_all s.octets r);
      }

  bytes-never-begin : (s t : Payload l party name type words bytes) (r : List ℕ) → t.octets ≡ s.octets ++ r → r ≡ []
  bytes-never-begin s t [] e = refl
  bytes-never-begin s t (x ∷ r) e =
      let n = ap length e in
      let left = (rest-is-17 s (x ∷ r) (omega arith) (omega (arith, (sound t).is.mode-byte.few))).refuses in
      let reads = t.reads in
      absurd (let z : ◌≡◌ {A = ℕ} 0 1 = cc in omega arith)

  bytes-alone : (s t : Payload l party name type words bytes) → Begins s.octets t.octets → s.octets ≡ t.octets
  bytes-alone s t b = sym (b.is ∙ ap (λ (m : List ℕ). s.octets ++ m) (bytes-never-begin s t b.more b.is) ∙ append-nil s.octets)

  bits-alone : (s t : Payload l party name type words bytes) → Begins (used_bits l party name type s) (used_bits l party name type t) → Same l party name type s t
  bits-alone s t b = never-begins s t go
    where
      go : (i : ℕ) → i < s.used → bit_at s.octets i ≡ bit_at t.octets i
      go i h =
          let n = ap length b.is in
          let m = length-append (used_bits l party name type s) b.more in
          let p = from-length s.octets 0 s.used in
          let q = from-length t.octets 0 t.used in
          sym (from-bit s.octets s.used i h)
          ∙ sym (get_or-append (used_bits l party name type s) b.more 0 i (omega arith))
          ∙ sym (ap (λ (w : List ℕ). source w i) b.is)
          ∙ from-bit t.octets t.used i (omega arith)

pub prefix : (l : List ℕ) (party name type : ℕ) → Prefix l party name type
prefix l party name type = record {
  never-begins = never-begins l party name type;
  same-list-same-bytes = λ s t mode none list text short short'.
      let none' = none_bare (events t.tree) (rw list at (bare-none (events s.tree) none)) in
      let a = written_back l party name type s none short in
      let b = written_back l party name type t none' short' in
      cc;
  bytes-never-begin = bytes-never-begin l party name type;
  split-once = λ S T e.
      apart (λ s. s.octets) (λ s. s.octets) (λ s. (sound l party name type s).is.mode-byte.filled) (λ s t b. let z = bytes-alone l party name type s t b in (z, z)) S T e;
  split-bits-once = λ S T e.
      apart (used_bits l party name type) (λ s. s.octets)
      (λ s. omega (arith, from-length s.octets 0 s.used, (sound l party name type s).is.found.stands.next))
      (λ s t b. let z = bits-alone l party name type s t b in (ap₂ (λ (m : List ℕ) (n : ℕ). bits_from m 0 n) z.octets z.used, z.octets)) S T e;
  rest-is-17 = rest-is-17 l party name type;
}
