-- Each way through the reading of a code, as the code goes it: r is the wire's answer.
use Prim.Native.Nat.{ℕ}
use mathlib.Core.Path.{◌≡◌, ap, ◌∙◌}
use mathlib.Core.List.{List}
use Rattle.std.specs.Prelude.{Ok, Err}
use Rattle.numbers.specs.declared.refusal.Refusal.{Refusal}
use Rattle.wire.specs.declared.Bits.{Bits}
use Rattle.wire.specs.Bits.{bit_at}
use Rattle.wire.specs.Answer.{Read, read_is}
use Rattle.wire.proofs.ReadWays.{read-value, read-refuse}
use Rattle.bit_reader.specs.Codes.{wall_of, left_at, coded, answered, reading_is, reading_at}
use Rattle.bit_reader.specs.declared.codes.Coding.{Coding}

module _ (s : List ℕ) (at : Bits) (c : Coding) (end : Bits) (w : end.0 ≡ wall_of s) (r : Read) (e : read_is r ≡ coded c (bit_at s) end.0 at.0) where
  below : read_is r ≡ coded c (bit_at s) (wall_of s) at.0
  below = e ∙ ap (λ (n : ℕ). coded c (bit_at s) n at.0) w

  pub way-refused : (f : Refusal) (l : Bits) → r ≡ Err f → l.0 ≡ left_at s at.0 → reading_is (record { code = Err f; place = at; left = l }) ≡ reading_at s at.0 c
  unfolding reading_at answered
  way-refused f l h g = rw (read-refuse below h, g)

  pub way-taken : (v : ℕ) (p l : Bits) → r ≡ Ok (v, p) → l.0 ≡ left_at s p.0 → reading_is (record { code = Ok v; place = p; left = l }) ≡ reading_at s at.0 c
  unfolding reading_at answered
  way-taken v p l h g = rw (read-value below h, g)

pub ruleset code_ways = (way-refused, way-taken)
