-- The ways through the entry, for the proofs of code: one law for each answer that `reading` can come to, in their order.
use Prim.Native.Nat.{ℕ, zero, suc, ◌+◌, ◌-◌, ◌*◌, ◌<◌, ◌≤◌}
use mathlib.Core.Path.{◌≡◌, refl, ◌∙◌}
use mathlib.Core.Bool.{Bool, true, false}
use mathlib.Core.List.{List, [], reverse}
use native.Mathlib.Omega.{arith}
use borrow.Author.Tests.{lt-leb, lt-ltb, le-ltb, eq-eqb, ne_eqb}
use lib.ListN.{length, get_or}
use Rattle.numbers.specs.Refusal as refusal
use Rattle.wire.specs.Res.{Res, got, fault, guard, at_most}
use Rattle.wire.proofs.Res.{under-then, under-fault}
use Rattle.wire.specs.Bits.{bit_at}
use Rattle.table.specs.First.Verdict.{right, wrong}
use Rattle.table.specs.Valid.{verdict}
use Rattle.table.specs.Rows.{table_of, held_of}
use Rattle.model.specs.Model.{Nodes, Path, Answer}
use Rattle.model.specs.Model.Answer.{given, refused}
use Rattle.model.specs.Items.{Lengths, Mode}
use Rattle.model.specs.Read.{read}
use Rattle.model.specs.Whole.{mode, lengths_number, mode_byte, modes_for, mode_by, mode_of, zeros, padding, accepted, declined, padded, replied, root_in, in_mode, payload, asked, room_of, after_asked, after_verdict, reading}
use Rattle.model.specs.Entries.{Entered, plan_of}
use Rattle.model.proofs.Entries.{reading-entered}

at-most-fault : (a b e : ℕ) → b < a → at_most a b e ≡ fault e
unfolding at_most guard
at-most-fault a b e h = rw (lt-leb a b h)

-- the root that 2 refuses: first the type, then the name
pub asked-type : (types party name type : ℕ) → types ≤ type → asked types party name type ≡ fault 2
unfolding asked
asked-type types party name type h = under-fault {a = suc type} {b = types} 2 _ (omega arith)

pub asked-name : (types party name type : ℕ) → type < types → 65535 < name → asked types party name type ≡ fault 2
unfolding asked
asked-name types party name type h k = under-then 2 h (under-fault {a = name} {b = 65535} 2 _ k)

-- the party that 26 refuses
pub asked-party : (types party name type : ℕ) → type < types → name ≤ 65535 → 7 < party → asked types party name type ≡ fault 26
unfolding asked
asked-party types party name type h k i = under-then 2 h (under-then 2 k (at-most-fault (suc party) 8 26 (omega arith)))

-- the padding, bit by bit
module _ (b : ℕ → ℕ) (at : ℕ) where
  pub zeros-none : zeros b at 0 ≡ true
  unfolding zeros
  zeros-none = refl

  pub zeros-more : (n : ℕ) → b at ≡ 0 → zeros b at (suc n) ≡ zeros b (at + 1) n
  unfolding zeros
  zeros-more n e = rw (eq-eqb (b at) 0 e)

  pub zeros-one : (n : ℕ) → (b at ≡ 0 → ⊥) → zeros b at (suc n) ≡ false
  unfolding zeros
  zeros-one n e = rw (ne_eqb (b at) 0 e)

pub padding-few : (s : List ℕ) (q : ℕ) → 8 * length s - q < 8 → padding s q ≡ zeros (bit_at s) q (8 * length s - q)
unfolding padding
padding-few s q h = rw (lt-ltb _ _ h)

pub padding-many : (s : List ℕ) (q : ℕ) → 8 ≤ 8 * length s - q → padding s q ≡ false
unfolding padding
padding-many s q h = rw (le-ltb _ _ h)

-- the mode byte, where there are D derivations
module _ (D : ℕ) where
  abbrev pub mode_at : ℕ → Res Mode
  mode_at x = mode_by mode_byte (modes_for D) x refusal.mode_byte

  -- of a byte that is one of the six, and where type codes are sent, only where the table has derivations
  pub mode_is_lem : (m : Mode) → (m.casting ≡ true → 0 < D) → (x : ℕ) → x ≡ mode_byte m → mode_at x ≡ got m
  unfolding mode_byte mode_by modes_for lengths_number
  mode_is_lem m h x e = rw e (go D m.lengths m.casting h)
    where
      go : (D : ℕ) (k : Lengths) (c : Bool) → (c ≡ true → 0 < D) → mode_by mode_byte (modes_for D) (mode_byte (mode k c)) refusal.mode_byte ≡ got (mode k c)
      go zero Lengths.never false h = refl
      go zero Lengths.optional false h = refl
      go zero Lengths.always false h = refl
      go (suc D) Lengths.never false h = refl
      go (suc D) Lengths.optional false h = refl
      go (suc D) Lengths.always false h = refl
      go (suc D) Lengths.never true h = refl
      go (suc D) Lengths.optional true h = refl
      go (suc D) Lengths.always true h = refl
      go zero k true h = absurd (let z = h refl in omega arith)

  -- of any other
  pub mode-other : (x : ℕ) → (x ≡ 0x0F → ⊥) → (x ≡ 0x4F → ⊥) → (x ≡ 0x8F → ⊥) → (0 < D → (x ≡ 0x1F → ⊥) × (x ≡ 0x5F → ⊥) × (x ≡ 0x9F → ⊥)) → mode_at x ≡ fault 4
  unfolding mode_byte mode_by modes_for lengths_number
  mode-other x a b c = go D
    where
      go : (D : ℕ) → (0 < D → (x ≡ 0x1F → ⊥) × (x ≡ 0x5F → ⊥) × (x ≡ 0x9F → ⊥)) → mode_by mode_byte (modes_for D) x refusal.mode_byte ≡ fault 4
      go zero h = rw (ne_eqb x 0x0F a, ne_eqb x 0x4F b, ne_eqb x 0x8F c)
      go (suc D) h =
          let k = h (omega arith) in
          rw (ne_eqb x 0x0F a, ne_eqb x 0x4F b, ne_eqb x 0x8F c, ne_eqb x 0x1F k.0, ne_eqb x 0x5F k.1, ne_eqb x 0x9F k.2)

  module _ (s : List ℕ) where
    pub mode-empty : length s < 1 → mode_of D s ≡ fault 3
    unfolding mode_of
    mode-empty h = under-fault 3 _ h

    pub mode-long : 1 ≤ length s → 8192 < length s → mode_of D s ≡ fault 3
    unfolding mode_of
    mode-long h k = under-then 3 h (under-fault 3 _ k)

    pub mode-byte : 1 ≤ length s → length s ≤ 8192 → mode_of D s ≡ mode_at (get_or s 0 0)
    unfolding mode_of
    mode-byte h k = under-then 3 h (under-then 3 k refl)

-- the reading
module _ (l : List ℕ) (party name type : ℕ) (s : List ℕ) (words bytes : ℕ) where
  pub reading-table : (i : ℕ) → verdict l ≡ wrong i → reading l party name type s words bytes ≡ declined 1 i []
  unfolding reading after_verdict
  reading-table i e = rw e

  pub reading-type : verdict l ≡ right → (table_of l).types ≤ type → reading l party name type s words bytes ≡ declined 2 0 []
  unfolding reading after_verdict after_asked
  reading-type e h = rw (e, asked-type (table_of l).types party name type h)

  pub reading-name : verdict l ≡ right → type < (table_of l).types → 65535 < name → reading l party name type s words bytes ≡ declined 2 0 []
  unfolding reading after_verdict after_asked
  reading-name e h k = rw (e, asked-name (table_of l).types party name type h k)

  pub reading-party : verdict l ≡ right → type < (table_of l).types → name ≤ 65535 → 7 < party → reading l party name type s words bytes ≡ declined 26 0 []
  unfolding reading after_verdict after_asked
  reading-party e h k i = rw (e, asked-party (table_of l).types party name type h k i)

  module _ (h : Entered l party name type) where
    -- 3 or 4
    pub reading-mode : (n : ℕ) → mode_of (table_of l).derivations s ≡ fault n → reading l party name type s words bytes ≡ declined n 0 []
    unfolding payload in_mode
    reading-mode n e = reading-entered l party name type s words bytes h ∙ rw e

    module _ (mode : Mode) (e : mode_of (table_of l).derivations s ≡ got mode) where
      pub reading-root : reading l party name type s words bytes ≡ replied (padding s) mode (read (bit_at s) mode.lengths (held_of l party) (plan_of l name type mode.casting) (room_of words bytes) [] (8 * length s) 8)
      unfolding payload in_mode root_in
      reading-root = reading-entered l party name type s words bytes h ∙ rw e

      module _ (o : Answer) (r : read (bit_at s) mode.lengths (held_of l party) (plan_of l name type mode.casting) (room_of words bytes) [] (8 * length s) 8 ≡ o) where
        pub reading-refused : (n p : ℕ) (π : Path) → o ≡ refused n p π → reading l party name type s words bytes ≡ declined n p (reverse π)
        unfolding replied
        reading-refused n p π z = reading-root ∙ rw (r, z)

        pub reading-left : (ns : Nodes) (q : ℕ) → o ≡ given ns q → padding s q ≡ false → reading l party name type s words bytes ≡ declined 17 q []
        unfolding replied padded
        reading-left ns q z f = reading-root ∙ rw (r, z, f)

        pub reading-given : (ns : Nodes) (q : ℕ) → o ≡ given ns q → padding s q ≡ true → reading l party name type s words bytes ≡ accepted mode ns q
        unfolding replied padded
        reading-given ns q z f = reading-root ∙ rw (r, z, f)
