-- What a whole payload is: mode byte, bits, padding; and what the reading replies to it.
use Rattle.std.specs.Prelude.{ℕ, ◌+◌, ◌*◌, ◌<◌, ◌≤◌, ◌≡◌, Bool, true, List, length, get_or}
use Rattle.numbers.specs.Limit.{most_payload}
use Rattle.wire.specs.Bits.{bit_at}
use Rattle.model.specs.Model.{Plan, Nodes}
use Rattle.model.specs.Items.{Mode}
use Rattle.model.specs.Grammar.{Is}
use Rattle.model.specs.Read.{Room}
use Rattle.theorems.specs.Sound.{Found}
use Rattle.model.specs.Whole.{mode_byte}

-- the mode byte; type codes are sent only by a table with derivations
pub record Moded (derivations : ℕ) (s : List ℕ) (mode : Mode) : Type 0 where
  pub filled : 1 ≤ length s
  pub few : length s ≤ most_payload
  pub byte : get_or s 0 0 ≡ mode_byte mode
  pub casts : mode.casting ≡ true → 0 < derivations

-- the padding
abbrev pub Zeros : (ℕ → ℕ) → ℕ → ℕ → Type 0
Zeros b at q = (i : ℕ) → at ≤ i → i < q → b i ≡ 0

-- fewer than 8 bits are left after q, all 0
pub record Padded (s : List ℕ) (q : ℕ) : Type 0 where
  pub short : 8 * length s ≤ q + 7
  pub zero : Zeros (bit_at s) q (8 * length s)

module _ (held : ℕ → Bool) (P : Bool → Plan) (derivations : ℕ) where
  -- a payload: the mode byte, then what the grammar lets stand, then padding
  pub record PayloadIs (s : List ℕ) (room : Room) (mode : Mode) (ns : Nodes) (q : ℕ) : Type 0 where
    pub mode-byte : Moded derivations s mode
    pub found : Found (bit_at s) (Is mode.lengths held (P mode.casting) 8) room (8 * length s) 8 ns q
    pub pads : Padded s q
