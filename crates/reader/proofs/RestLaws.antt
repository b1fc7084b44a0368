-- The ways through `padding`: what is left after the root.
use Prim.Native.Nat.{ℕ, suc, ◌+◌, ◌-◌, ◌*◌, ◌<◌, ◌≤◌}
use mathlib.Core.Path.{◌≡◌, sym, ◌∙◌}
use mathlib.Core.List.{List}
use mathlib.Core.Bool.{true, false}
use native.Mathlib.Omega.{arith}
use lib.ListN.{length}
use Rattle.wire.specs.Bits.{bit_at}
use Rattle.model.specs.Whole.{zeros, padding}
use Rattle.model.proofs.EntryWays.{zeros-none, zeros-more, zeros-one, padding-few, padding-many}

-- what is left from p on says what is left from at on
abbrev pub Left : List ℕ → ℕ → ℕ → ℕ → Type 0
Left s at wall p = padding s at ≡ zeros (bit_at s) p (wall - p)

module _ (s : List ℕ) (at wall : ℕ) (w : wall ≡ 8 * length s) where
  pub rest-none : wall ≤ at → true ≡ padding s at
  rest-none h = let z : 8 * length s - at ≡ 0 = omega arith in sym (padding-few s at (omega arith) ∙ rw z (zeros-none (bit_at s) at))

  pub rest-long : at < wall → 8 ≤ wall - at → false ≡ padding s at
  rest-long h g = sym (padding-many s at (omega arith))

  pub rest-start : at < wall → wall - at < 8 → Left s at wall at
  rest-start h g = let z : 8 * length s - at ≡ wall - at = omega arith in padding-few s at (omega arith) ∙ rw z

  module _ (p : ℕ) (inv : Left s at wall p) where
    pub rest_end : wall ≤ p → true ≡ padding s at
    rest_end h = let z : wall - p ≡ 0 = omega arith in sym (inv ∙ rw z (zeros-none (bit_at s) p))

    module _ (x : ℕ) (e : x ≡ bit_at s p) (h : p < wall) where
      one_more : wall - p ≡ suc (wall - (p + 1))
      one_more = omega arith

      pub rest-one : 0 < x → false ≡ padding s at
      rest-one g = sym (inv ∙ rw one_more (zeros-one (bit_at s) p (wall - (p + 1)) (λ z. omega arith)))

      pub rest-again : x ≤ 0 → Left s at wall (p + 1)
      rest-again g = inv ∙ rw one_more (zeros-more (bit_at s) p (wall - (p + 1)) (omega arith))

pub ruleset rest_ways = (rest-none, rest-long, rest-start, rest_end, rest-one, rest-again)
