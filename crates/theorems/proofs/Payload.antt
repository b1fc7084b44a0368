-- Whole payloads: mode byte, root, padding. What is read of a payload is so, and what is so is read; the bytes of a payload are those of its bits.
use Prim.Native.Nat.{ℕ, zero, suc, ◌+◌, ◌-◌, ◌*◌, ◌/◌, ◌<◌, ◌≤◌}
use mathlib.Core.Path.{◌≡◌, refl, sym, ap, ap₂, ◌∙◌}
use mathlib.Core.Bool.{Bool, true, false, cond}
use mathlib.Core.List.{List, [], ◌∷◌}
use native.Mathlib.Omega.{arith}
use native.Mathlib.Decide.{dec_lt, ℕ_discrete}
use borrow.Author.Tests.{eq-eqb, eqb-true, ltb-true, lt-ltb}
use lib.Dec.{eqb, ltb}
use lib.ListN.{length, get_or}
use Rattle.numbers.specs.Refusal as refusal
use Rattle.numbers.specs.Refusal.{payload_size}
use Rattle.numbers.specs.Limit.{most_payload}
use Rattle.wire.specs.Res.{Res, got, fault, Ensures}
use Rattle.wire.proofs.Res.{under}
use Rattle.wire.specs.Bits.{bit_at, source}
use Rattle.wire.proofs.BitLaws.{bit-lt}
use Rattle.value.specs.Simple.{bytes_at, AllBytes}
use Rattle.value.proofs.SimpleLaws.{bytes-length}
use Rattle.model.specs.Model.{Plan, Nodes, Answer, tree_slots, tree_bytes, tree_bits}
use Rattle.model.specs.Model.Answer.{given, refused}
use Rattle.model.specs.Items.{Mode}
use Rattle.model.specs.Grammar.{Is}
use Rattle.model.specs.Read.{Room, read}
use Rattle.theorems.specs.Sound.{Found, Finds}
use Rattle.theorems.proofs.Sound.{read_is}
use Rattle.theorems.proofs.Complete.{is_read}
use Rattle.model.proofs.Sums.{is_sum, is-bits}
use Rattle.model.specs.Pack.{pack}
use Rattle.model.proofs.PackLaws.{bit-next, bytes-moved, bytes_back, bytes-bit, source-bit, source-past, has-each, each-has}
use Rattle.model.proofs.Entries.{mode-known}
use Rattle.model.proofs.EntryWays.{mode_is_lem, mode-byte}
use Rattle.model.specs.Whole.{mode_byte, mode_of, zeros, padding, Reply, accepted, declined, padded, replied, root_in, in_mode, payload}
use Rattle.theorems.specs.Payload.{Moded, Zeros, Padded, PayloadIs}

pub moded : (D : ℕ) (s : List ℕ) → Ensures (mode_of D s) (Moded D s)
unfolding mode_of
moded D s =
    under payload_size λ a. under payload_size λ c. record {
      says = λ m e. let k = (mode-known mode_byte D (get_or s 0 0) refusal.mode_byte).says m e in record { filled = a; few = c; byte = k.is; casts = k.casts };
    }

pub moded-then : (D : ℕ) (s : List ℕ) (mode : Mode) → Moded D s mode → mode_of D s ≡ got mode
moded-then D s mode h = mode-byte D s h.filled h.few ∙ mode_is_lem D mode h.casts (get_or s 0 0) h.byte

zeros-found : (b : ℕ → ℕ) (at n : ℕ) → zeros b at n ≡ true → Zeros b at (at + n)
unfolding zeros
zeros-found b at zero e i h k = absurd (omega arith)
zeros-found b at (suc n) e i h k = go (eqb (b at) 0) refl e (zeros-found b (at + 1) n)
  where
    go : (t : Bool) → eqb (b at) 0 ≡ t → cond t (zeros b (at + 1) n) false ≡ true → (zeros b (at + 1) n ≡ true → Zeros b (at + 1) (at + 1 + n)) → b i ≡ 0
    go true z f g = elim (ℕ_discrete i at) [ yes y ↦ ap b y ∙ eqb-true (b at) 0 z | no y ↦ g f i (omega arith) (omega arith) ]
    go false z f g = absurd (let y : ◌≡◌ {A = ℕ} 0 1 = cc in omega arith)

zeros-then : (b : ℕ → ℕ) (at n : ℕ) → Zeros b at (at + n) → zeros b at n ≡ true
unfolding zeros
zeros-then b at zero f = refl
zeros-then b at (suc n) f = rw (eq-eqb (b at) 0 (f at (omega arith) (omega arith))) (zeros-then b (at + 1) n (λ i h k. f i (omega arith) (omega arith)))

pub padded-found : (s : List ℕ) (q : ℕ) → padding s q ≡ true → Padded s q
unfolding padding
padded-found s q e = go (ltb (8 * length s - q) 8) refl e
  where
    go : (t : Bool) → ltb (8 * length s - q) 8 ≡ t → cond t (zeros (bit_at s) q (8 * length s - q)) false ≡ true → Padded s q
    go true z f =
        let l = ltb-true (8 * length s - q) 8 z in
        record { short = omega arith; zero = λ i h k. zeros-found (bit_at s) q (8 * length s - q) f i h (omega arith) }
    go false z f = absurd (let y : ◌≡◌ {A = ℕ} 0 1 = cc in omega arith)

pub padded-then : (s : List ℕ) (q : ℕ) → q ≤ 8 * length s → Padded s q → padding s q ≡ true
unfolding padding
padded-then s q k h =
    rw (lt-ltb (8 * length s - q) 8 (omega arith)) (zeros-then (bit_at s) q (8 * length s - q) (λ i l m. h.zero i l (omega arith)))

module _ (held : ℕ → Bool) (P : Bool → Plan) (D : ℕ) where
  abbrev Replies : List ℕ → Room → Reply → Type 0
  Replies s room (accepted mode ns q) = PayloadIs held P D s room mode ns q
  Replies s room (declined n p π) = Unit

  payload-is : (s : List ℕ) (room : Room) → Replies s room (payload held P D s room)
  unfolding payload in_mode root_in replied padded
  payload-is s room = go (mode_of D s) (moded D s)
    where
      end : (mode : Mode) (t : Bool) (ns : Nodes) (q : ℕ) → padding s q ≡ t → Moded D s mode → Found (bit_at s) (Is mode.lengths held (P mode.casting) 8) room (8 * length s) 8 ns q
          → Replies s room (padded t mode ns q)
      end mode true ns q e h f = record { mode-byte = h; found = f; pads = padded-found s q e }
      end mode false ns q e h f = tt

      rest : (mode : Mode) (o : Answer) → Moded D s mode → Finds (bit_at s) (Is mode.lengths held (P mode.casting) 8) room [] (8 * length s) 8 o → Replies s room (replied (padding s) mode o)
      rest mode (given ns q) h f = end mode (padding s q) ns q refl h f
      rest mode (refused n p π) h f = tt

      go : (m : Res Mode) → Ensures m (Moded D s) → Replies s room (in_mode m (root_in held P s room))
      go (got mode) h =
          let m = h.says mode refl in
          rest mode (read (bit_at s) mode.lengths held (P mode.casting) room [] (8 * length s) 8) m (read_is (bit_at s) mode.lengths held (bit-lt s) (P mode.casting) room [] (8 * length s) 8 (omega (arith, m.filled)))
      go (fault n) h = tt

  pub payload-found : (s : List ℕ) (room : Room) (mode : Mode) (ns : Nodes) (q : ℕ) → payload held P D s room ≡ accepted mode ns q → PayloadIs held P D s room mode ns q
  payload-found s room mode ns q e = rw e at (payload-is s room)

  pub payload-reads : (s : List ℕ) (room : Room) (mode : Mode) (ns : Nodes) (q : ℕ) → PayloadIs held P D s room mode ns q → payload held P D s room ≡ accepted mode ns q
  unfolding payload in_mode root_in replied padded
  payload-reads s room mode ns q h =
      let f = h.found in
      rw (moded-then D s mode h.mode-byte, is_read (bit_at s) mode.lengths held f.is room [] (8 * length s) q f.stands f.within f.slots f.bytes, padded-then s q f.within h.pads)

  -- the bits of all events plus 8 are the bits used
  pub payload-sum : (s : List ℕ) (room : Room) (mode : Mode) (ns : Nodes) (q : ℕ) → PayloadIs held P D s room mode ns q → 8 + tree_bits ns ≡ q
  payload-sum s room mode ns q h = let f = h.found in omega (arith, is_sum mode.lengths held f.is, f.stands.next)

  -- the bytes of a payload are those of its bits
  pub payload-bytes : (s : List ℕ) (room : Room) (mode : Mode) (ns : Nodes) (q : ℕ) → AllBytes s → (h : (PayloadIs held P D) s room mode ns q) → s ≡ mode_byte mode ∷ pack h.found.bits
  unfolding pack
  payload-bytes [] room mode ns q c h = absurd (omega (arith, h.mode-byte.filled))
  payload-bytes (y ∷ s) room mode ns q c h =
      let w = h.found.bits in
      let st = h.found.stands in
      let n : (length w + 7) / 8 ≡ length s = omega (arith, h.pads.short, h.found.within, st.next) in
      ap₂ ◌∷◌ h.mode-byte.byte
      (sym (rw n
      (bytes-moved (source w) (bit_at s) 0 0 (length s)
      (λ j k. elim (dec_lt j (length w)) [
        | yes l ↦ ap (source w) (omega arith) ∙ has-each (bit_at (y ∷ s)) 8 w st.there j l ∙ bit-next y s j ∙ ap (bit_at s) (omega arith)
        | no l ↦
            source-past w (0 + j) (omega arith)
            ∙ sym (h.pads.zero (8 + j) (omega (arith, st.next)) (omega arith))
            ∙ bit-next y s j ∙ ap (bit_at s) (omega arith)
      ])
      ∙ bytes_back s c.1)))

  -- and bits that are so make such a payload
  pub packed-is : (mode : Mode) (w : List ℕ) (ns : Nodes) (r : Room) → Is mode.lengths held (P mode.casting) 8 ns w → 1 + (length w + 7) / 8 ≤ most_payload → tree_slots ns ≤ r.slots → tree_bytes ns ≤ r.bytes
      → (mode.casting ≡ true → 0 < D) → PayloadIs held P D (mode_byte mode ∷ pack w) r mode ns (8 + length w)
  unfolding pack
  packed-is mode w ns r i few h k c =
      let n = (length w + 7) / 8 in
      let s = bytes_at (source w) 0 n in
      let size : length s ≡ n = bytes-length (source w) 0 n in
      let bit = source-bit w (is-bits mode.lengths held i) in
      record {
        mode-byte = record { filled = omega arith; few = omega arith; byte = refl; casts = c };
        found = record {
          bits = w;
          is = i;
          stands = record { there = each-has (bit_at (mode_byte mode ∷ s)) 8 w (λ j l. bit-next (mode_byte mode) s j ∙ bytes-bit (source w) bit 0 n j (omega arith) ∙ ap (source w) (omega arith)); next = refl };
          within = omega arith;
          slots = h;
          bytes = k;
        };
        pads = record {
          short = omega arith;
          zero = λ j l m.
              let a : j ≡ 8 + (j - 8) = omega arith in
              ap (bit_at (mode_byte mode ∷ s)) a ∙ bit-next (mode_byte mode) s (j - 8) ∙ bytes-bit (source w) bit 0 n (j - 8) (omega arith) ∙ source-past w (0 + (j - 8)) (omega arith);
        };
      }
