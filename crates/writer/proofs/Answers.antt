-- What the entry promises: its answer, in document 01's numbers, and what it leaves in the lent payload.
use Prim.Native.Nat.{ℕ}
use mathlib.Core.Path.{◌≡◌}
use mathlib.Core.List.{List}
use lib.ListN.{replicate}
use Rattle.std.specs.Prelude.{Err}
use Rattle.numbers.specs.declared.refusal.Fault.{Fault}
use Rattle.numbers.specs.Refused.{number_of}
use Rattle.model.specs.Whole.{Made, unmade, outcome_made, payload_left}
use Rattle.writer.specs.Answers.{Writes}

-- a refusal, with the payload zero
pub unmade-writes : (m : Made) (mode events text room : ℕ) (x : Fault ℕ) (P : List ℕ) → m ≡ unmade (number_of x.why) x.at → P ≡ replicate room 0 → Writes m mode events text room (Err x) P
unfolding outcome_made payload_left
unmade-writes m mode events text room x P a e = record { answer = rw a; left = rw a e }
