-- A byte that is there or not; a judgement, and a bound.
use Prim.Native.Nat.{ℕ, ◌+◌, ◌≤◌, ◌<◌}
use mathlib.Core.Path.{◌≡◌}
use mathlib.Core.List.{List}
use borrow.Author.Tests.{lt-ltb, le-ltb, le-leb, lt-leb, eq-eqb, ne_eqb}
use lib.ListN.{get_or}
use Rattle.numbers.specs.Refusal.{accepted, past_end}
use Rattle.wire.specs.Res.{got, fault, guard, at_most}
use Rattle.init.specs.Items.{byte_at, pass}

module _ (s : List ℕ) (wall at : ℕ) where
  pub byte-is : at < wall → byte_at s wall at ≡ got (get_or s at 0, at + 1)
  unfolding byte_at
  byte-is h = rw (lt-ltb _ _ h)

  pub byte-no : wall ≤ at → byte_at s wall at ≡ fault past_end
  unfolding byte_at
  byte-no h = rw (le-ltb _ _ h)

pub pass-good : (e : ℕ) → e ≡ accepted → pass e ≡ got tt
unfolding pass guard
pass-good e h = rw (eq-eqb _ _ h)

pub pass-bad : (e : ℕ) → (e ≡ accepted → ⊥) → pass e ≡ fault e
unfolding pass guard
pass-bad e h = rw (ne_eqb _ _ h)

pub most-good : (a b e : ℕ) → a ≤ b → at_most a b e ≡ got tt
unfolding at_most guard
most-good a b e h = rw (le-leb _ _ h)

pub most-bad : (a b e : ℕ) → b < a → at_most a b e ≡ fault e
unfolding at_most guard
most-bad a b e h = rw (lt-leb _ _ h)
