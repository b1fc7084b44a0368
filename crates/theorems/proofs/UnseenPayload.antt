-- Of the entry: two payloads of one length that differ only in Blanks past their codes, of what is read of the one, give one list.
use Prim.Native.Nat.{ℕ, ◌+◌, ◌*◌, ◌<◌, ◌≤◌}
use mathlib.Core.Path.{◌≡◌, sym, ◌∙◌}
use mathlib.Core.List.{List, [], ◌∷◌}
use native.Mathlib.Omega.{arith}
use lib.ListN.{length, get_or}
use Rattle.wire.specs.Bits.{bit_at, num}
use Rattle.wire.proofs.BitLaws.{bit-lt}
use Rattle.table.specs.Rows.{held_of}
use Rattle.value.specs.Simple.{AllBytes}
use Rattle.model.specs.Model.{Nodes}
use Rattle.model.specs.Items.{Mode}
use Rattle.theorems.proofs.Sound.{read_found}
use Rattle.model.proofs.PackLaws.{byte-num, num-moved}
use Rattle.model.specs.Whole.{accepted, room_of, reading}
use Rattle.model.specs.Entries.{plan_of}
use Rattle.theorems.proofs.Reader.{reading-complete}
use Rattle.theorems.specs.Reader.{IsReading}
use Rattle.theorems.specs.Unseen.{Unseen}
use Rattle.theorems.proofs.Unseen.{unseen-within, blank-unseen}

-- the first byte is its bits
pub first_byte : (s : List ℕ) → AllBytes s → 1 ≤ length s → get_or s 0 0 ≡ num (bit_at s) 0 8
first_byte [] o h = absurd (omega arith)
first_byte (x ∷ s) o h = sym (byte-num x s o.0)

module _ (l : List ℕ) (party name type : ℕ) (s s' : List ℕ) (words bytes : ℕ) (mode : Mode) (ns : Nodes) (used : ℕ) where
  pub reading-unseen : AllBytes s → AllBytes s' → length s' ≡ length s → (h : IsReading l party name type s words bytes mode ns used)
      → ((i : ℕ) → i < 8 * length s → (Unseen h.is.found.is i → ⊥) → bit_at s' i ≡ bit_at s i) → reading l party name type s' words bytes ≡ accepted mode ns used
  reading-unseen o o' long h same =
      let i = h.is in
      let f = i.found in
      let P = plan_of l name type mode.casting in
      let room = room_of words bytes in
      let wall = f.within in
      let filled = i.mode-byte.filled in
      let few = i.mode-byte.few in
      let next = f.stands.next in
      let out : (k : ℕ) → Unseen f.is k → (8 ≤ k) × (k < used) = λ k z. let y = unseen-within f.is k z in omega arith in
      let r' = blank-unseen mode.lengths (held_of l party) (bit_at s) (bit_at s') (bit-lt s') P room [] (8 * length s) 8 ns used f (λ k a d n. same k (omega arith) n) in
      let g = read_found (bit_at s') mode.lengths (held_of l party) (bit-lt s') P room [] (8 * length s) 8 ns used (omega arith) r' in
      let byte : get_or s' 0 0 ≡ get_or s 0 0 =
      first_byte s' o' (omega arith)
      ∙ num-moved (bit_at s') (bit_at s) 0 0 8 (λ j k. same (0 + j) (omega arith) (λ z. let y = out (0 + j) z in omega arith))
      ∙ sym (first_byte s o filled) in
      reading-complete l party name type s' words bytes mode ns used (record {
        enters = h.enters;
        is = record {
          mode-byte = record { filled = omega arith; few = omega arith; byte = byte ∙ i.mode-byte.byte; casts = i.mode-byte.casts };
          found = record { bits = g.bits; is = g.is; stands = g.stands; within = omega arith; slots = g.slots; bytes = g.bytes };
          pads = record {
            short = let p = i.pads.short in omega arith;
            zero = λ k a d. same k (omega arith) (λ z. let y = out k z in omega arith) ∙ i.pads.zero k a (omega arith);
          };
        };
      })
