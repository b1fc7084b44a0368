-- What a write of bits does to a buffer.
use Rattle.std.specs.Prelude.{ℕ, ◌+◌, ◌*◌, ◌^◌, ◌<◌, ◌≤◌, ◌≡◌, List, length}
use Rattle.std.specs.Prelude.{Ok, Err}
use Rattle.numbers.specs.declared.refusal.Refusal.TheVariants as refusal
use Rattle.wire.specs.Answer.{Read}
use Rattle.wire.specs.Bits.{bit_at, Has}
use Rattle.wire.specs.Number.{code8}

-- c is b with the bits l from the place at on, and with nothing else changed
pub record Put (b c : ℕ → ℕ) (at : ℕ) (l : List ℕ) : Type 0 where
  pub stands : Has c at l
  pub before : (j : ℕ) → j < at → c j ≡ b j
  pub after : (j : ℕ) → at + length l ≤ j → c j ≡ b j

-- there is room from the place at for n bits, and their places fit a word
abbrev pub Room : List ℕ → ℕ → ℕ → Type 0
Room s at n = (at + n ≤ 8 * length s) × (at + n < 2 ^ 32)

-- the bytes t are s with the bits l from the place at on, up to the place p
pub record Wrote (s t : List ℕ) (at : ℕ) (l : List ℕ) (p : ℕ) : Type 0 where
  pub bits : Put (bit_at s) (bit_at t) at l
  pub next : p ≡ at + length l

-- the number v is written whole, as the bits l; or it has no code, and nothing is
abbrev pub WroteOr : (coded uncoded : Type 0) (l : List ℕ) (v : ℕ) (s t : List ℕ) (at : ℕ) → Read → Type 0
WroteOr coded uncoded l v s t at (Ok (u, p)) = (u ≡ v) × coded × Wrote s t at l p.0
WroteOr coded uncoded l v s t at (Err e) = (e ≡ refusal.OutsideRow) × uncoded × (t ≡ s)

-- a vluimsbf8 would else take a third byte
abbrev pub Wrote8 : List ℕ → List ℕ → ℕ → ℕ → Read → Type 0
Wrote8 s t at v r = WroteOr (v < 16384) (16384 ≤ v) (code8 v) v s t at r
