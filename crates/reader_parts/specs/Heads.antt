-- Heads as the meanings have them.
use Rattle.std.specs.Prelude.{ℕ, ◌≤◌, ◌≡◌, Result, Ok, Err}
use Rattle.numbers.specs.Refused.{number_of}
use Rattle.numbers.specs.declared.refusal.Refusal.{Refusal}
use Rattle.wire.specs.Res.{Res, got, fault}
use Rattle.model.specs.Items as items
use Rattle.model.specs.Items.{length_at, head_at}
use Rattle.model.specs.Modes.{lengths_is}
use Rattle.model.specs.declared.Lengths.{Lengths}
use Rattle.reader_parts.specs.declared.Head as head
use Rattle.reader_parts.specs.declared.Head.TheVariants.{Bare, Sized}

-- a head, or why it is refused
abbrev pub Head : Type 0
Head = Result head.Head Refusal

unfoldable pub head_is : Head → Res items.Head
head_is (Ok (Bare body)) = got (items.Head.bare body.0)
head_is (Ok (Sized body end)) = got (items.Head.sized body.0 end.0)
head_is (Err e) = fault (number_of e)

-- a declared end is at most the wall
abbrev pub Within : ℕ → Head → Type 0
Within wall (Ok (Bare body)) = Unit {0}
Within wall (Ok (Sized body end)) = end.0 ≤ wall
Within wall (Err e) = Unit {0}

pub record Heads (lengths : Lengths) (b : ℕ → ℕ) (wall at : ℕ) (r : Head) : Type 0 where
  pub says : head_is r ≡ head_at (lengths_is lengths) b wall at
  pub within : Within wall r

-- after a flag that says so
pub record Measured (b : ℕ → ℕ) (wall at : ℕ) (r : Head) : Type 0 where
  pub says : head_is r ≡ length_at 1 b wall at
  pub within : Within wall r
