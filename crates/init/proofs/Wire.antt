-- The number of an item is the wire's own vluimsbf8, read and written in whole bytes: one definition stands, told twice.
use Prim.Native.Nat.{ℕ, ◌+◌, ◌-◌, ◌*◌, ◌/◌, ◌%◌, ◌<◌, ◌≤◌}
use mathlib.Core.Path.{◌≡◌, sym, ap, ◌∙◌}
use mathlib.Core.List.{List, ◌++◌, flat_map, append-nil}
use native.Mathlib.Omega.{arith}
use native.Mathlib.Decide.{dec_lt, ℕ_discrete}
use borrow.Author.Tests.{lt-ltb, le-ltb, eq-eqb, ne_eqb}
use lib.ListN.{get_or}
use Rattle.wire.specs.Res.{Res, got, fault, ◌>>=◌}
use Rattle.wire.specs.Bits.{bit_at, fixed_at, digits}
use Rattle.wire.specs.Number.{second8_at, number8, strict, read8, code8}
use Rattle.wire.proofs.BitLaws.{fixed_in, fixed-past}
use Rattle.wire.proofs.WindowLaws.{byte-num}
use Rattle.numbers.specs.Refusal.{past_end}
use Rattle.init.specs.Items.{second_at, number_at, bytes8}
use Rattle.init.proofs.ItemWays.{byte-is, byte-no}

-- a place in bytes, told in bits
unfoldable pub in_bits : Res (ℕ × ℕ) → Res (ℕ × ℕ)
in_bits (got r) = got (r.0, 8 * r.1)
in_bits (fault e) = fault e

module _ (s : List ℕ) (bytes : (i : ℕ) → get_or s i 0 < 256) (wall : ℕ) where
  byte-in : (at : ℕ) → at < wall → fixed_at (bit_at s) (8 * wall) (8 * at) 8 ≡ got (get_or s at 0, 8 * (at + 1))
  byte-in at h =
      let e : 8 * at + 8 ≡ 8 * (at + 1) = omega arith in
      fixed_in (bit_at s) (8 * wall) (8 * at) 8 (omega arith) ∙ rw (byte-num s at (bytes at), e)

  byte_past : (at : ℕ) → wall ≤ at → fixed_at (bit_at s) (8 * wall) (8 * at) 8 ≡ fault past_end
  byte_past at h = fixed-past (bit_at s) (8 * wall) (8 * at) 8 (omega arith)

  second-wire : (x at : ℕ) → strict (second8_at (bit_at s) (8 * wall) x (8 * at)) ≡ in_bits (second_at s wall x at)
  unfolding strict second8_at second_at in_bits ◌>>=◌
  second-wire x at = elim (dec_lt at wall) [
    | no h ↦ rw (byte_past at (omega arith), byte-no s wall at (omega arith))
    | yes h ↦ elim (dec_lt (get_or s at 0) 128) [
      | no k ↦ rw (byte-in at h, byte-is s wall at h, le-ltb (get_or s at 0) 128 (omega arith))
      | yes k ↦ elim (ℕ_discrete x 0) [
        | yes z ↦ rw (byte-in at h, byte-is s wall at h, lt-ltb _ _ k, eq-eqb _ _ z)
        | no z ↦ rw (byte-in at h, byte-is s wall at h, lt-ltb _ _ k, ne_eqb _ _ z)
      ]
    ]
  ]

  pub number-wire : (at : ℕ) → read8 (bit_at s) (8 * wall) (8 * at) ≡ in_bits (number_at s wall at)
  unfolding read8 strict number8 number_at in_bits ◌>>=◌
  number-wire at = elim (dec_lt at wall) [
    | no h ↦ rw (byte_past at (omega arith), byte-no s wall at (omega arith))
    | yes h ↦ elim (dec_lt (get_or s at 0) 128) [
      | yes k ↦ rw (byte-in at h, byte-is s wall at h, lt-ltb _ _ k)
      | no k ↦ rw (byte-in at h, byte-is s wall at h, le-ltb (get_or s at 0) 128 (omega arith)) (second-wire (get_or s at 0 - 128) (at + 1))
    ]
  ]

-- written: the bits of an item's bytes are the wire's
pub code-wire : (v : ℕ) → code8 v ≡ flat_map (digits 8) (bytes8 v)
unfolding code8 bytes8 flat_map
code-wire v = elim (dec_lt v 128) [
  | yes h ↦ rw (lt-ltb v 128 h) (sym (append-nil (digits 8 v)))
  | no h ↦ rw (le-ltb v 128 (omega arith)) (ap (λ (l : List ℕ). digits 8 (128 + v / 128) ++ l) (sym (append-nil (digits 8 (v % 128)))))
]
