-- EVERY TheLength IS SHORTEST, said of a list of events alone: of each Start with a length, its bits are the flag's and those of the shortest
-- vluimsbf5 of the bits of all events between it and its End.
use Rattle.std.specs.Prelude.{ℕ, zero, suc, pred, ◌+◌, ◌≡◌, cond, List, [], ◌∷◌, eqb, length}
use Rattle.numbers.specs.Kind as kinds
use Rattle.wire.specs.Number.{code5}
use Rattle.model.specs.Model.{Event}
use Rattle.model.specs.Items.{Lengths}

-- the bits of LengthFlag
abbrev pub flag_bits : Lengths → ℕ
flag_bits Lengths.never = 0
flag_bits Lengths.optional = 1
flag_bits Lengths.always = 0

-- how many elements are open after an event, of so many before it
unfoldable pub open_after : ℕ → Event → ℕ
open_after d e = cond (eqb e.kind kinds.start) (suc d) (cond (eqb e.kind kinds.end) (pred d) d)

-- the bits of all events before the End after which none of the open elements is open
unfoldable pub unless_closed : ℕ → Event → (ℕ → ℕ) → ℕ
unless_closed zero e rest = 0
unless_closed (suc d) e rest = e.bits + rest (suc d)

unfoldable pub bits_within : ℕ → List Event → ℕ
bits_within d [] = 0
bits_within d (e ∷ L) = unless_closed (open_after d e) e (λ k. bits_within k L)

-- a Start's own element is the one that is open behind it
abbrev pub AllShortest : (flag : ℕ) → List Event → Type 0
AllShortest flag [] = Unit
AllShortest flag (e ∷ L) = (e.kind ≡ kinds.start → e.q ≡ 1 → e.bits ≡ flag + length (code5 (bits_within 1 L))) × AllShortest flag L
