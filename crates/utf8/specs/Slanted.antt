-- A text whose octets begin at a bit of each byte, as texts stand in a payload, and the octets of it that are passed at once.
use Rattle.std.specs.Prelude.{ℕ, zero, suc, ◌+◌, ◌-◌, ◌*◌, ◌/◌, ◌%◌, ◌^◌, ◌<◌, ◌≤◌, min, false, ◌⊎◌, ◌≡◌, List, [], ◌∷◌, length, get_or}
use Rattle.utf8.specs.Rfc.{In}
use Rattle.utf8.specs.Text.{has_control}
use Rattle.utf8.specs.Steps.{run}
use Rattle.utf8.specs.declared.State.{State}
use Rattle.utf8.specs.declared.State.TheVariants.{Start}

-- the octet from bit k of byte i on, where bit 0 is a byte's highest
unfoldable pub octet_at : List ℕ → ℕ → ℕ → ℕ
octet_at s zero i = get_or s i 0
octet_at s (suc k) i = get_or s i 0 * 2 ^ suc k % 256 + get_or s (suc i) 0 / 2 ^ (7 - k)

-- the n octets from bit k of byte i on
unfoldable pub octets_at : List ℕ → ℕ → ℕ → ℕ → List ℕ
octets_at s k i zero = []
octets_at s k i (suc n) = octet_at s k i ∷ octets_at s k (suc i) n

-- each is a byte
abbrev pub AllBytes : List ℕ → Type 0
AllBytes s = (i : ℕ) → get_or s i 0 < 256

-- the octets up to bit k of byte to are there
abbrev pub Within : List ℕ → ℕ → ℕ → Type 0
Within s k to = to + min k 1 ≤ length s

-- the octets from..to are printable ASCII: nothing is wrong with any of them
pub record Printable (s : List ℕ) (k from to : ℕ) : Type 0 where
  pub each : (j : ℕ) → from ≤ j → j < to → In 0x20 0x7F (octet_at s k j)

-- the octets from..r are, and r is not past to
pub record Passed (s : List ℕ) (k from to r : ℕ) : Type 0 where
  pub from_r : from ≤ r
  pub r_to : r ≤ to
  pub printable : Printable s k from r

-- the octets from..to are whole characters, and none of them a control character
pub record Whole (s : List ℕ) (k from to : ℕ) : Type 0 where
  pub ends : run Start (octets_at s k from (to - from)) ≡ Start
  pub free : has_control (octets_at s k from (to - from)) ≡ false

-- the octets from..r are, and r is not past to
pub record Went (s : List ℕ) (k from to r : ℕ) : Type 0 where
  pub from_r : from ≤ r
  pub r_to : r ≤ to
  pub whole : Whole s k from r

-- in this state nothing is passed, or whole characters between two characters
pub record Skipped (s : List ℕ) (k i to : ℕ) (state : State) (r : ℕ) : Type 0 where
  pub from_r : i ≤ r
  pub r_to : r ≤ to
  pub way : (r ≡ i) ⊎ ((state ≡ Start) × Whole s k i r)
